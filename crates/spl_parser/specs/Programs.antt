-- How a whole program is read.
use Rattle.std.specs.Prelude.{ℕ, suc, ◌+◌, Bool, false, cond, List, [], ◌∷◌, Option, Some, None, Ok, Err, nat_lt}
use Rattle.st_tokens.specs.declared.limit.LimitKind.{LimitKind}
use Rattle.st_tokens.specs.declared.limit.LimitKind.TheVariants as limits
use Rattle.st_tokens.specs.Stream.{behind}
use Rattle.st_reading.specs.declared.mark.Mark.TheVariants as marks
use Rattle.st_reading.specs.Sign.{is}
use Rattle.st_reading.specs.Faults.{passed}
use Rattle.st_reading.specs.Reading.{other, Label, ahead, place_of, name_of, is_name, refusal, expected, gives, then_reads, on_operator, chain, size, Counted, counting, linked, Carried, whole}
use Rattle.spl_parser.specs.Signs.{mode, kind}
use Rattle.expression_parser.specs.ExpressionTree.{Expr}
use Rattle.spl_parser.specs.ProgramTree.{Body, Declaration, Process, Program}
use Rattle.expression_parser.specs.Reading.{Reader, expression_of, below}
use Rattle.spl_parser.specs.Statements.{Lower, body_of, inside}

-- how much a program may have: whether one more may begin when there are n
pub record Limits : Type 0 where
  pub variables : ℕ → Bool
  pub processes : ℕ → Bool
  pub statements : ℕ → Bool
  -- levels of a formula, and statements round a statement
  pub opened : ℕ
  pub round : ℕ

-- how many processes, variables and statements there are
pub record Totals : Type 0 where
  pub processes : ℕ
  pub variables : ℕ
  pub statements : ℕ

abbrev pub totals : ℕ → ℕ → ℕ → Totals
totals p v n = record { processes = p; variables = v; statements = n }

-- a process that is put together, and what there is then
abbrev pub process : Totals → Label → Counted (List Declaration) → Counted Body → Carried Totals Process
process t name ds b = (record { name = name; declarations = ds.0; body = b.0 }, totals (t.processes + 1) ds.1 b.1)

-- a name, seen by f, if one more may be named
abbrev pub limited_name : {A : Type 0} → LimitKind → Bool → (Label → A) → Reader A
limited_name limited may f s = cond (is_name (ahead s)) (cond may (Ok (f (name_of s), behind s)) (Err (other (passed limited (place_of s))))) (Err (refusal s))

module _ (limit : Limits) where
  unfoldable pub value_of : Reader Expr
  value_of s = expression_of false (below false limit.opened) s

  -- a statement where that many more may stand round it
  abbrev pub lower_of : ℕ → Lower
  lower_of room = inside value_of limit.statements room

  -- a declared name, where n were declared before
  unfoldable pub variable_of : ℕ → Reader (Counted Label)
  variable_of n s = limited_name limits.Variables (limit.variables n) (λ l. (l, n + 1)) s

  -- name { "," name }
  unfoldable pub names_of : ℕ → Reader (Counted (List Label))
  names_of n s = then_reads (variable_of n) (λ x. linked marks.Comma variable_of (x.0 ∷ [], x.1)) s

  -- "integer" or "boolean"
  unfoldable pub type_of : Reader Bool
  type_of s = on_operator (kind (ahead s)) (Err (refusal s)) (λ truth. Ok (truth, behind s))

  -- [ "where" expr ]
  unfoldable pub initial_of : Reader (Option Expr)
  initial_of s = cond (is (ahead s) marks.Where) (then_reads value_of (λ e. gives (Some e)) (behind s)) (Ok (None, s))

  -- behind the mode: name { "," name } ":" ( "integer" | "boolean" ) [ "where" expr ] ";"
  unfoldable pub declaration_of : Bool → ℕ → Reader (Counted Declaration)
  declaration_of input n s =
      then_reads (names_of n) (λ names. then_reads (expected marks.Colon) (λ m. then_reads type_of (λ truth. then_reads initial_of (λ initial. then_reads (expected marks.Semicolon)
      (λ z. gives (record { input = input; names = names.0; truth = truth; initial = initial }, names.1)))))) s

  -- { decl }
  unfoldable pub declarations_of : ℕ → Reader (Counted (List Declaration))
  declarations_of n s = chain mode (counting declaration_of) gives (size s) ([], n) s

  -- a process's name, where n processes were read before
  unfoldable pub process_name : ℕ → Reader Label
  process_name n s = limited_name limits.Processes (limit.processes n) (λ l. l) s

  -- name "::" "[" { decl } sequence [ ";" name ":" ] "]"
  unfoldable pub process_of : Totals → Reader (Carried Totals Process)
  process_of t s =
      then_reads (process_name t.processes) (λ name. then_reads (expected marks.Colons) (λ m. then_reads (expected marks.OpenBlock) (λ m. then_reads (declarations_of t.variables) (λ ds. then_reads (body_of value_of (lower_of (suc limit.round)) t.statements)
      (λ b. gives (process t name ds b)))))) s

  -- process { "||" process }
  unfoldable pub processes_of : Totals → Reader (Carried Totals (List Process))
  processes_of t s = then_reads (process_of t) (λ x. linked marks.Bars process_of (x.0 ∷ [], x.1)) s

  -- { decl } process { "||" process }
  unfoldable pub spelled_of : Reader Program
  spelled_of s = then_reads (declarations_of 0) (λ ds. then_reads (processes_of (totals 0 ds.1 0)) (λ ps. gives (record { declarations = ds.0; processes = ps.0 }))) s

  -- and nothing behind it
  unfoldable pub program_of : Reader Program
  program_of s = whole spelled_of s

-- the limits of programs
abbrev pub usual : Limits
usual = record { variables = λ n. nat_lt n 64; processes = λ n. nat_lt n 16; statements = λ n. nat_lt n 400; opened = 32; round = 32 }
