-- Programs, read within limits or within larger ones: what is read stays read, and a fault that is kept stays.
use Rattle.std.proofs.Common.{ℕ, suc, ◌+◌, Bool, false, cond, List, [], ◌∷◌, Option, Some, None, Err, refl}
use Rattle.st_tokens.specs.declared.limit.LimitKind.{LimitKind}
use Rattle.st_tokens.specs.declared.limit.LimitKind.TheVariants as limits
use Rattle.st_tokens.specs.Stream.{behind}
use Rattle.st_reading.specs.declared.mark.Mark.TheVariants as marks
use Rattle.st_reading.specs.Sign.{is}
use Rattle.st_reading.specs.Faults.{Passed, passed}
use Rattle.st_reading.specs.Reading.{other, Label, ahead, place_of, name_of, is_name, refusal, expected, gives, then_reads, size, Counted, Carried, linked}
use Rattle.st_reading.proofs.Lifting.{Lifts, lifts_same, lifts_bind, lifts_behind, lifts_map, lifted_cond, lifts_counting, lifts_linked}
use Rattle.spl_parser.specs.Signs.{mode}
use Rattle.expression_parser.specs.ExpressionTree.{Expr}
use Rattle.spl_parser.specs.ProgramTree.{Declaration, Process, Program}
use Rattle.expression_parser.specs.Reading.{Reader, below}
use Rattle.spl_parser.specs.Statements.{body_of}
use Rattle.spl_parser.specs.Programs.{Limits, limited_name, value_of, lower_of, variable_of, names_of, type_of, initial_of, declaration_of, declarations_of, Totals, totals, process_name, process, process_of, processes_of, spelled_of}
use Rattle.expression_parser.proofs.ExpressionLifting.{AsDeep, expression_lifts, below_lifts}
use Rattle.spl_parser.proofs.StatementLifting.{AsMany, lifted_test, body_lifts, inside_lifts}

-- limits that are as large, or larger where passing one isn't kept
pub record AsLarge (Keep : Passed → Type 0) (l m : Limits) : Type 0 where
  pub variables : AsMany Keep limits.Variables l.variables m.variables
  pub processes : AsMany Keep limits.Processes l.processes m.processes
  pub statements : AsMany Keep limits.Statements l.statements m.statements
  pub opened : AsDeep Keep l.opened m.opened
  pub round : AsDeep Keep (suc l.round) (suc m.round)

module _ (Keep : Passed → Type 0) (l m : Limits) (large : AsLarge Keep l m) where
  value_lifts : Lifts Keep (value_of l) (value_of m)
  unfolding value_of
  value_lifts s = expression_lifts Keep false (below false l.opened) (below false m.opened) (below_lifts Keep false l.opened m.opened large.opened) s

  name_lifts : {A : Type 0} (kind : LimitKind) (may may2 : ℕ → Bool) → AsMany Keep kind may may2 → (n : ℕ) (f : Label → A) → Lifts Keep (limited_name kind (may n) f) (limited_name kind (may2 n) f)
  name_lifts kind may may2 many n f s =
      lifted_cond Keep (is_name (ahead s)) (cond (may n) (gives (f (name_of s)) (behind s)) (Err (other (passed kind (place_of s))))) (Err (refusal s)) (cond (may2 n) (gives (f (name_of s)) (behind s)) (Err (other (passed kind (place_of s))))) (Err (refusal s))
      (lifted_test Keep kind may may2 many n (place_of s) (gives (f (name_of s)) (behind s)) (gives (f (name_of s)) (behind s)) refl) (λ k. refl)

  variable_lifts : (n : ℕ) → Lifts Keep (variable_of l n) (variable_of m n)
  unfolding variable_of
  variable_lifts n = name_lifts limits.Variables l.variables m.variables large.variables n (λ (x : Label). (x, n + 1))

  names_lifts : (n : ℕ) → Lifts Keep (names_of l n) (names_of m n)
  unfolding names_of
  names_lifts n =
      lifts_bind Keep (variable_of l n) (variable_of m n) (λ x. linked marks.Comma (variable_of l) (x.0 ∷ [], x.1)) (λ x. linked marks.Comma (variable_of m) (x.0 ∷ [], x.1)) (variable_lifts n)
      (λ x. lifts_linked Keep marks.Comma (variable_of l) (variable_of m) variable_lifts (x.0 ∷ [], x.1))

  initial_lifts : Lifts Keep (initial_of l) (initial_of m)
  unfolding initial_of
  initial_lifts s =
      lifted_cond Keep (is (ahead s) marks.Where) (then_reads (value_of l) (λ e. gives (Some e)) (behind s)) (gives None s) (then_reads (value_of m) (λ e. gives (Some e)) (behind s)) (gives None s) (lifts_map Keep (λ e. Some e) (value_of l) (value_of m) value_lifts (behind s)) refl

  type_lifts : Lifts Keep (type_of l) (type_of m)
  unfolding type_of
  type_lifts = lifts_same Keep (type_of l)

  abbrev made : Bool → Counted (List Label) → Bool → Option Expr → Counted Declaration
  made input names truth initial = (record { input = input; names = names.0; truth = truth; initial = initial }, names.1)

  abbrev ended : Bool → Counted (List Label) → Bool → Option Expr → Reader (Counted Declaration)
  ended input names truth initial = then_reads (expected marks.Semicolon) (λ z. gives (made input names truth initial))

  declaration_lifts : (input : Bool) (n : ℕ) → Lifts Keep (declaration_of l input n) (declaration_of m input n)
  unfolding declaration_of
  declaration_lifts input n =
      lifts_bind Keep (names_of l n) (names_of m n) (λ names. then_reads (expected marks.Colon) (λ k. then_reads (type_of l) (λ truth. then_reads (initial_of l) (ended input names truth)))) (λ names. then_reads (expected marks.Colon) (λ k. then_reads (type_of m) (λ truth. then_reads (initial_of m) (ended input names truth)))) (names_lifts n)
      (λ names. lifts_behind Keep (expected marks.Colon) (λ k. then_reads (type_of l) (λ truth. then_reads (initial_of l) (ended input names truth))) (λ k. then_reads (type_of m) (λ truth. then_reads (initial_of m) (ended input names truth)))
      (λ k. lifts_bind Keep (type_of l) (type_of m) (λ truth. then_reads (initial_of l) (ended input names truth)) (λ truth. then_reads (initial_of m) (ended input names truth)) type_lifts
      (λ truth. lifts_bind Keep (initial_of l) (initial_of m) (ended input names truth) (ended input names truth) initial_lifts (λ initial. lifts_same Keep (ended input names truth initial)))))

  declarations_lifts : (n : ℕ) → Lifts Keep (declarations_of l n) (declarations_of m n)
  unfolding declarations_of
  declarations_lifts n s = lifts_counting Keep mode (declaration_of l) (declaration_of m) declaration_lifts (size s) ([], n) s

  process_name_lifts : (n : ℕ) → Lifts Keep (process_name l n) (process_name m n)
  unfolding process_name
  process_name_lifts n = name_lifts limits.Processes l.processes m.processes large.processes n (λ x. x)

  abbrev bodied : Limits → Totals → Label → Counted (List Declaration) → Reader (Carried Totals Process)
  bodied limit t name ds = then_reads (body_of (value_of limit) (lower_of limit (suc limit.round)) t.statements) (λ b. gives (process t name ds b))

  bodied_lifts : (t : Totals) (name : Label) (ds : Counted (List Declaration)) → Lifts Keep (bodied l t name ds) (bodied m t name ds)
  bodied_lifts t name ds =
      lifts_map Keep (process t name ds) (body_of (value_of l) (lower_of l (suc l.round)) t.statements) (body_of (value_of m) (lower_of m (suc m.round)) t.statements)
      (body_lifts Keep (value_of l) (value_of m) value_lifts (lower_of l (suc l.round)) (lower_of m (suc m.round)) (inside_lifts Keep (value_of l) (value_of m) value_lifts l.statements m.statements large.statements (suc l.round) (suc m.round) large.round) t.statements)

  process_lifts : (t : Totals) → Lifts Keep (process_of l t) (process_of m t)
  unfolding process_of
  process_lifts t =
      lifts_bind Keep (process_name l t.processes) (process_name m t.processes) (λ name. then_reads (expected marks.Colons) (λ k. then_reads (expected marks.OpenBlock) (λ k. then_reads (declarations_of l t.variables) (bodied l t name)))) (λ name. then_reads (expected marks.Colons) (λ k. then_reads (expected marks.OpenBlock) (λ k. then_reads (declarations_of m t.variables) (bodied m t name)))) (process_name_lifts t.processes)
      (λ name. lifts_behind Keep (expected marks.Colons) (λ k. then_reads (expected marks.OpenBlock) (λ k. then_reads (declarations_of l t.variables) (bodied l t name))) (λ k. then_reads (expected marks.OpenBlock) (λ k. then_reads (declarations_of m t.variables) (bodied m t name)))
      (λ k. lifts_behind Keep (expected marks.OpenBlock) (λ k. then_reads (declarations_of l t.variables) (bodied l t name)) (λ k. then_reads (declarations_of m t.variables) (bodied m t name))
      (λ k. lifts_bind Keep (declarations_of l t.variables) (declarations_of m t.variables) (bodied l t name) (bodied m t name) (declarations_lifts t.variables) (bodied_lifts t name))))

  processes_lifts : (t : Totals) → Lifts Keep (processes_of l t) (processes_of m t)
  unfolding processes_of
  processes_lifts t =
      lifts_bind Keep (process_of l t) (process_of m t) (λ x. linked marks.Bars (process_of l) (x.0 ∷ [], x.1)) (λ x. linked marks.Bars (process_of m) (x.0 ∷ [], x.1)) (process_lifts t)
      (λ x. lifts_linked Keep marks.Bars (process_of l) (process_of m) process_lifts (x.0 ∷ [], x.1))

  abbrev made_of : Counted (List Declaration) → Carried Totals (List Process) → Program
  made_of ds ps = record { declarations = ds.0; processes = ps.0 }

  pub spelled_lifts : Lifts Keep (spelled_of l) (spelled_of m)
  unfolding spelled_of
  spelled_lifts =
      lifts_bind Keep (declarations_of l 0) (declarations_of m 0) (λ ds. then_reads (processes_of l (totals 0 ds.1 0)) (λ ps. gives (made_of ds ps))) (λ ds. then_reads (processes_of m (totals 0 ds.1 0)) (λ ps. gives (made_of ds ps))) (declarations_lifts 0)
      (λ ds. lifts_map Keep (made_of ds) (processes_of l (totals 0 ds.1 0)) (processes_of m (totals 0 ds.1 0)) (processes_lifts (totals 0 ds.1 0)))
