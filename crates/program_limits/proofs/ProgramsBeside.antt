-- Whole programs, read within the limits and without them: variables and processes are counted as they are named.
use Rattle.std.proofs.Common.{◌≡◌, ℕ, suc, ◌+◌, ◌<◌, Bool, true, false, cond, List, [], ◌∷◌, ◌++◌, Option, Ok, Err, refl, sym, ap, subst, ◌∙◌, append-nil, append_assoc, arith}
use Rattle.st_tokens.specs.declared.limit.LimitKind.{LimitKind}
use Rattle.st_tokens.specs.declared.limit.LimitKind.TheVariants as limits
use Rattle.st_tokens.specs.Stream.{Lexeme, Stream, ends, breaks, more}
use Rattle.st_reading.specs.declared.mark.Mark.TheVariants as marks
use Rattle.st_reading.specs.Sign.{sign_of}
use Rattle.st_reading.specs.Faults.{Passed, passed}
use Rattle.st_reading.specs.Reading.{other, Label, label_of, is_name, refusal, expected, gives, then_reads, chain, size, Counted, Carried, counting}
use Rattle.st_reading.proofs.Soundness.{split, values}
use Rattle.spl_parser.specs.Signs.{mode}
use Rattle.expression_parser.specs.ExpressionTree.{Expr}
use Rattle.spl_parser.specs.ProgramTree.{Body, Declaration, Process, Program}
use Rattle.expression_parser.specs.Reading.{Reader}
use Rattle.spl_parser.specs.Statements.{body_of, inside}
use Rattle.spl_parser.specs.Programs.{Limits, Totals, totals, limited_name, value_of, lower_of, variable_of, names_of, type_of, initial_of, declaration_of, declarations_of, process_name, process, process_of, processes_of, spelled_of}
use Rattle.spl_parser.proofs.InsideLaw.{unlimited}
use Rattle.program_limits.specs.Order.{all_counts, name_counts, declaration_counts, process_counts, body_counts, program_counts}
use Rattle.program_limits.proofs.Walking.{step, Meets, meets_value, meets_behind}
use Rattle.program_limits.proofs.Besides.{BesideAt, Besides, ItemBesides, beside_bind, beside_behind, beside_gives, beside_fault, beside_one, beside_equal, beside_row, beside_counting}
use Rattle.program_limits.proofs.StatementsBeside.{body_beside}
use Rattle.program_limits.proofs.LevelsBeside.{inside_beside}

-- the limits on formulas, and no others
abbrev pub freely : Limits → ℕ → Limits
freely limit round = record { variables = unlimited; processes = unlimited; statements = unlimited; opened = limit.opened; round = round }

-- A NAME, WHERE ONE MORE MAY BE NAMED
module _ (limit : Limits) {A : Type 0} (t u : Totals) (before : List Passed) (ev : A → List Passed) (st : A → Totals) (kind : LimitKind) (may : Bool) (f : Label → A)
    (can : (place : ℕ) → step limit t (passed kind place) ≡ cond may (Ok u) (Err (passed kind place))) (same : (l : Label) → ev (f l) ≡ before ++ passed kind l.place ∷ []) (then_is : (l : Label) → u ≡ st (f l)) where
  name_at : (l : Lexeme) (s : Stream) (b : Bool) → BesideAt limit t before ev st (cond b (cond may (Ok (f (label_of l), s)) (Err (other (passed kind l.start)))) (Err (refusal (more l s)))) (cond b (Ok (f (label_of l), s)) (Err (refusal (more l s))))
  name_at l s true = beside_one limit t u before ev st may (passed kind l.start) (can l.start) (f (label_of l)) s (same (label_of l)) (then_is (label_of l))
  name_at l s false = beside_fault limit t before ev st (Err (refusal (more l s))) (refusal (more l s))

  name_beside : Besides limit t before ev st (limited_name kind may f) (limited_name kind true f)
  name_beside (ends q) = beside_fault limit t before ev st (Err (refusal (ends q))) (refusal (ends q))
  name_beside (breaks g) = beside_fault limit t before ev st (Err (refusal (breaks g))) (refusal (breaks g))
  name_beside (more l s) = name_at l s (is_name (sign_of l))

-- what is counted in a program is met from the beginning
pub record Meeting (limit : Limits) (s : Stream) (x : Program) (rest : Stream) : Type 0 where
  pub now : Totals
  pub meets : Meets limit (spelled_of limit s) x rest (program_counts x) (totals 0 0 0) now

module _ (limit : Limits) (round : ℕ) where
  abbrev free : Limits
  free = freely limit round

  value_same : value_of limit ≡ value_of (freely limit round)
  unfolding value_of
  value_same = refl

  type_same : type_of limit ≡ type_of (freely limit round)
  unfolding type_of
  type_same = refl

  initial_same : initial_of limit ≡ initial_of (freely limit round)
  unfolding initial_of value_of
  initial_same = refl

  -- DECLARATIONS, of which the variables are counted
  module _ (p n0 : ℕ) where
    abbrev vs : ℕ → Totals
    vs n = totals p n n0

    variable_beside : ItemBesides limit name_counts (λ n. totals p n n0) (variable_of limit) (variable_of (freely limit round))
    unfolding variable_of
    variable_beside n before = name_beside limit (vs n) (vs (n + 1)) before (λ x. before ++ name_counts x.0) (λ x. vs x.1) limits.Variables (limit.variables n) (λ l. (l, n + 1)) (λ place. refl) (λ l. refl) (λ l. refl)

    names_beside : (n : ℕ) (before : List Passed) → Besides limit (vs n) before (λ xs. before ++ all_counts name_counts xs.0) (λ xs. vs xs.1) (names_of limit n) (names_of (freely limit round) n)
    unfolding names_of
    names_beside n before = beside_row limit name_counts (λ n. totals p n n0) marks.Comma (variable_of limit) (variable_of (freely limit round)) variable_beside n before

    abbrev made : Bool → Counted (List Label) → Bool → Option Expr → Counted Declaration
    made input names truth initial = (record { input = input; names = names.0; truth = truth; initial = initial }, names.1)

    abbrev last_part : Bool → Counted (List Label) → Bool → Option Expr → Reader (Counted Declaration)
    last_part input names truth initial = then_reads (expected marks.Semicolon) (λ z. gives (made input names truth initial))

    declaration_beside : (input : Bool) → ItemBesides limit declaration_counts (λ n. totals p n n0) (declaration_of limit input) (declaration_of (freely limit round) input)
    unfolding declaration_of
    declaration_beside input n before =
        beside_bind limit (vs n) before (λ xs. before ++ all_counts name_counts xs.0) (λ xs. vs xs.1) (λ d. before ++ declaration_counts d.0) (λ d. vs d.1) (names_of limit n) (names_of free n)
        (λ names. then_reads (expected marks.Colon) (λ m. then_reads (type_of limit) (λ truth. then_reads (initial_of limit) (last_part input names truth)))) (λ names. then_reads (expected marks.Colon) (λ m. then_reads (type_of free) (λ truth. then_reads (initial_of free) (last_part input names truth))))
        (names_beside n before)
        (λ names. beside_behind limit (vs names.1) (before ++ all_counts name_counts names.0) (λ d. before ++ declaration_counts d.0) (λ d. vs d.1) (expected marks.Colon) (λ m. then_reads (type_of limit) (λ truth. then_reads (initial_of limit) (last_part input names truth))) (λ m. then_reads (type_of free) (λ truth. then_reads (initial_of free) (last_part input names truth)))
        (λ m. beside_bind limit (vs names.1) (before ++ all_counts name_counts names.0) (λ x. before ++ all_counts name_counts names.0) (λ x. vs names.1) (λ d. before ++ declaration_counts d.0) (λ d. vs d.1) (type_of limit) (type_of free) (λ truth. then_reads (initial_of limit) (last_part input names truth)) (λ truth. then_reads (initial_of free) (last_part input names truth))
        (beside_equal limit (vs names.1) (before ++ all_counts name_counts names.0) (type_of limit) (type_of free) type_same)
        (λ truth. beside_bind limit (vs names.1) (before ++ all_counts name_counts names.0) (λ x. before ++ all_counts name_counts names.0) (λ x. vs names.1) (λ d. before ++ declaration_counts d.0) (λ d. vs d.1) (initial_of limit) (initial_of free) (last_part input names truth) (last_part input names truth)
        (beside_equal limit (vs names.1) (before ++ all_counts name_counts names.0) (initial_of limit) (initial_of free) initial_same)
        (λ initial. beside_behind limit (vs names.1) (before ++ all_counts name_counts names.0) (λ d. before ++ declaration_counts d.0) (λ d. vs d.1) (expected marks.Semicolon) (λ z. gives (made input names truth initial)) (λ z. gives (made input names truth initial))
        (λ z. beside_gives limit (vs names.1) (before ++ all_counts name_counts names.0) (λ d. before ++ declaration_counts d.0) (λ d. vs d.1) (made input names truth initial) refl refl)))))

    declarations_beside : (n : ℕ) (before : List Passed) → Besides limit (vs n) before (λ ds. before ++ all_counts declaration_counts ds.0) (λ ds. vs ds.1) (declarations_of limit n) (declarations_of (freely limit round) n)
    unfolding declarations_of
    declarations_beside n before s =
        subst (λ b. BesideAt limit (totals p n n0) b (λ (ds : Counted (List Declaration)). before ++ all_counts declaration_counts ds.0) (λ ds. totals p ds.1 n0) (chain mode (counting (declaration_of limit)) gives (size s) ([], n) s) (chain mode (counting (declaration_of (freely limit round))) gives (size s) ([], n) s)) (append-nil before)
        (beside_counting limit declaration_counts (λ n. totals p n n0) (declaration_of limit) (declaration_of free) declaration_beside before mode (size s) ([], n) s)

  -- PROCESSES
  abbrev body_at : Limits → ℕ → Reader (Counted Body)
  body_at l n = body_of (value_of l) (lower_of l (suc l.round)) n

  module _ (deeper : limit.round < round) where
    program_body : (p v n : ℕ) (before : List Passed) → Besides limit (totals p v n) before (λ b. before ++ body_counts (suc limit.round) b.0) (λ b. totals p v b.1) (body_at limit n) (body_at (freely limit round) n)
    program_body p v n before =
        subst (λ (w : Reader Expr). Besides limit (totals p v n) before (λ b. before ++ body_counts (suc limit.round) b.0) (λ b. totals p v b.1) (body_of (value_of limit) (inside (value_of limit) limit.statements (suc limit.round)) n) (body_of w (inside w unlimited (suc round)) n)) value_same
        (body_beside limit p v (value_of limit) (suc limit.round) (inside (value_of limit) limit.statements (suc limit.round)) (inside (value_of limit) unlimited (suc round)) (inside_beside limit p v (value_of limit) (suc limit.round) (suc round) (omega arith)) n before)

    -- 32 more may stand round a statement than at the last level
    module _ (usually : suc limit.round ≡ 33) where
      abbrev headed : Limits → Totals → Label → Reader (Carried Totals Process)
      headed l t name = then_reads (declarations_of l t.variables) (λ ds. then_reads (body_at l t.statements) (λ b. gives (process t name ds b)))

      body_beside33 : (p v n : ℕ) (before : List Passed) → Besides limit (totals p v n) before (λ b. before ++ body_counts 33 b.0) (λ b. totals p v b.1) (body_at limit n) (body_at (freely limit round) n)
      body_beside33 p v n before = subst (λ k. Besides limit (totals p v n) before (λ b. before ++ body_counts k b.0) (λ b. totals p v b.1) (body_at limit n) (body_at (freely limit round) n)) usually (program_body p v n before)

      process_is : (before : List Passed) (place : ℕ) (a b : List Passed) → ((before ++ passed limits.Processes place ∷ []) ++ a) ++ b ≡ before ++ (passed limits.Processes place ∷ (a ++ b))
      process_is before place a b = append_assoc (before ++ passed limits.Processes place ∷ []) a b ∙ append_assoc before (passed limits.Processes place ∷ []) (a ++ b)

      headed_beside : (t : Totals) (name : Label) (before : List Passed) → Besides limit (totals (t.processes + 1) t.variables t.statements) (before ++ passed limits.Processes name.place ∷ []) (λ x. before ++ process_counts x.0) (λ x. x.1) (headed limit t name) (headed (freely limit round) t name)
      headed_beside t name before =
          let b1 = before ++ passed limits.Processes name.place ∷ [] in
          beside_bind limit (totals (t.processes + 1) t.variables t.statements) b1 (λ ds. b1 ++ all_counts declaration_counts ds.0) (λ ds. totals (t.processes + 1) ds.1 t.statements) (λ x. before ++ process_counts x.0) (λ x. x.1) (declarations_of limit t.variables) (declarations_of free t.variables)
          (λ ds. then_reads (body_at limit t.statements) (λ b. gives (process t name ds b))) (λ ds. then_reads (body_at free t.statements) (λ b. gives (process t name ds b))) (declarations_beside (t.processes + 1) t.statements t.variables b1)
          (λ ds. beside_bind limit (totals (t.processes + 1) ds.1 t.statements) (b1 ++ all_counts declaration_counts ds.0) (λ b. (b1 ++ all_counts declaration_counts ds.0) ++ body_counts 33 b.0) (λ b. totals (t.processes + 1) ds.1 b.1) (λ x. before ++ process_counts x.0) (λ x. x.1) (body_at limit t.statements) (body_at free t.statements)
          (λ b. gives (process t name ds b)) (λ b. gives (process t name ds b)) (body_beside33 (t.processes + 1) ds.1 t.statements (b1 ++ all_counts declaration_counts ds.0))
          (λ b. beside_gives limit (totals (t.processes + 1) ds.1 b.1) ((b1 ++ all_counts declaration_counts ds.0) ++ body_counts 33 b.0) (λ x. before ++ process_counts x.0) (λ x. x.1) (process t name ds b) (process_is before name.place (all_counts declaration_counts ds.0) (body_counts 33 b.0)) refl))

      process_name_beside : (t : Totals) (before : List Passed) → Besides limit t before (λ l. before ++ passed limits.Processes l.place ∷ []) (λ l. totals (t.processes + 1) t.variables t.statements) (process_name limit t.processes) (process_name (freely limit round) t.processes)
      unfolding process_name
      process_name_beside t before = name_beside limit t (totals (t.processes + 1) t.variables t.statements) before (λ l. before ++ passed limits.Processes l.place ∷ []) (λ l. totals (t.processes + 1) t.variables t.statements) limits.Processes (limit.processes t.processes) (λ l. l) (λ place. refl) (λ l. refl) (λ l. refl)

      process_beside : ItemBesides limit process_counts (λ (t : Totals). t) (process_of limit) (process_of (freely limit round))
      unfolding process_of
      process_beside t before =
          beside_bind limit t before (λ l. before ++ passed limits.Processes l.place ∷ []) (λ l. totals (t.processes + 1) t.variables t.statements) (λ x. before ++ process_counts x.0) (λ x. x.1) (process_name limit t.processes) (process_name free t.processes)
          (λ name. then_reads (expected marks.Colons) (λ m. then_reads (expected marks.OpenBlock) (λ m. headed limit t name))) (λ name. then_reads (expected marks.Colons) (λ m. then_reads (expected marks.OpenBlock) (λ m. headed free t name))) (process_name_beside t before)
          (λ name. beside_behind limit (totals (t.processes + 1) t.variables t.statements) (before ++ passed limits.Processes name.place ∷ []) (λ x. before ++ process_counts x.0) (λ x. x.1) (expected marks.Colons) (λ m. then_reads (expected marks.OpenBlock) (λ m. headed limit t name)) (λ m. then_reads (expected marks.OpenBlock) (λ m. headed free t name))
          (λ m. beside_behind limit (totals (t.processes + 1) t.variables t.statements) (before ++ passed limits.Processes name.place ∷ []) (λ x. before ++ process_counts x.0) (λ x. x.1) (expected marks.OpenBlock) (λ m. headed limit t name) (λ m. headed free t name) (λ m. headed_beside t name before)))

      processes_beside : (t : Totals) (before : List Passed) → Besides limit t before (λ ps. before ++ all_counts process_counts ps.0) (λ ps. ps.1) (processes_of limit t) (processes_of (freely limit round) t)
      unfolding processes_of
      processes_beside t before = beside_row limit process_counts (λ (t : Totals). t) marks.Bars (process_of limit) (process_of free) process_beside t before

      -- WHOLE PROGRAMS
      abbrev made_of : Counted (List Declaration) → Carried Totals (List Process) → Program
      made_of ds ps = record { declarations = ds.0; processes = ps.0 }

      joined : (a b first both all : List Passed) → first ≡ a → both ≡ first ++ b → both ≡ all → a ++ (b ++ []) ≡ all
      joined a b first both all e f g = ap (λ z. a ++ z) (append-nil b) ∙ ap (λ z. z ++ b) (sym e) ∙ sym f ∙ g

      pub spelled_meets : (s : Stream) (x : Program) (rest : Stream) → spelled_of (freely limit round) s ≡ Ok (x, rest) → Meeting limit s x rest
      unfolding spelled_of
      spelled_meets s x rest h =
          let k = split (declarations_of free 0) (λ ds. then_reads (processes_of free (totals 0 ds.1 0)) (λ ps. gives (made_of ds ps))) s x rest h in
          let m = split (processes_of free (totals 0 k.value.1 0)) (λ ps. gives (made_of k.value ps)) k.middle x rest k.second in
          let w = values {X = Passed} (gives (made_of k.value m.value) m.middle) (made_of k.value m.value) x m.middle rest refl m.second in
          let a = declarations_beside 0 0 0 [] s k.value k.middle k.first in
          let b = processes_beside (totals 0 k.value.1 0) (all_counts declaration_counts k.value.0) k.middle m.value m.middle m.first in
          let same : program_counts (made_of k.value m.value) ≡ program_counts x = ap program_counts w.0 in
          let is = joined a.counts b.counts (all_counts declaration_counts k.value.0) (all_counts declaration_counts k.value.0 ++ all_counts process_counts m.value.0) (program_counts x) a.is b.is same in
          record {
            now = m.value.1;
            meets = subst (λ cs. Meets limit (spelled_of limit s) x rest cs (totals 0 0 0) m.value.1) is
                (meets_behind limit (declarations_of limit 0 s) (λ ds. then_reads (processes_of limit (totals 0 ds.1 0)) (λ ps. gives (made_of ds ps))) k.value k.middle x rest a.counts (b.counts ++ []) (totals 0 0 0) (totals 0 k.value.1 0) m.value.1 a.meets
                (meets_behind limit (processes_of limit (totals 0 k.value.1 0) k.middle) (λ ps. gives (made_of k.value ps)) m.value m.middle x rest b.counts [] (totals 0 k.value.1 0) m.value.1 m.value.1 b.meets
                (meets_value limit (made_of k.value m.value) x m.middle rest m.value.1 m.value.1 w.0 w.1 refl)));
          }
