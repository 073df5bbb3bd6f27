-- The laws of formulas and integer expressions.
use Rattle.std.proofs.Common.{◌≡◌, true, List, [], ◌∷◌, Some, Ok, Err, Result, refl, ap, sym, ◌∙◌, arith}
use Rattle.st_tokens.specs.Stream.{◌++>◌, first_place}
use Rattle.st_linear.specs.Linear.{Linear}
use Rattle.st_form.specs.Formula.{Formula}
use Rattle.st_program.specs.Tree.{number, truth}
use Rattle.expression_parser.specs.ExpressionTree.{Expr}
use Rattle.expression_parser.specs.Grammar.{SpellsWithin, Formula as DeepFormula}
use Rattle.expression_parser.proofs.ExpressionCompleteness.{formula_complete}
use Rattle.expression_typer.specs.declared.fault.TypeFault.{TypeFault}
use Rattle.expression_typer.specs.Scope.{Names}
use Rattle.assertions.specs.Reading.{truth_of, number_of, before, typed_behind, form_of, linear_of}
use Rattle.assertion_grammar.specs.Standing.{ShallowFormula, ShallowSum, SumWithin, Sum, test_faults_by, number_faults_by}
use Rattle.assertion_grammar.specs.Theorems.{MeansTruth, MeansNumber, SumsReadOnce, SpelledFormsAreRead, SpelledLinearsAreRead, FormsAreTold, LinearsAreTold}
use Rattle.assertion_grammar.proofs.Rooms as rooms
use Rattle.assertion_grammar.proofs.Readers.{formula_reader, sum_reader, formula_sound, formula_lawful, sums_sound, sums_complete, sums_lawful, sum_as_formula}
use Rattle.assertion_grammar.proofs.Placing.{laid}
use Rattle.assertion_grammar.proofs.Telling.{TellsOf, tells, tells_test, tells_number}

pub sums_read_once : SumsReadOnce
sums_read_once ts x y a b = rooms.read_once sum_reader SumWithin sums_sound sums_complete sums_lawful ts x y a b

-- what has a meaning and breaks no rule is typed to it
typed_so : {A : Type 0} (faults : Expr → List TypeFault) (Means : Expr → A → Type 0) (e : Expr) (one : (x y : A) → Means e x → Means e y → x ≡ y) (r : Result A TypeFault) → TellsOf faults Means e r → faults e ≡ [] → (x : A) → Means e x → r ≡ Ok x
typed_so faults Means e one (Ok y) t none x m = ap Ok (one y x t.1 m)
typed_so faults Means e one (Err f) t none x m = let bad : f ∷ t.rest ≡ [] = sym t.among ∙ none in absurd cc

one_truth : (names : Names) (e : Expr) (x y : Formula) → MeansTruth names e x → MeansTruth names e y → x ≡ y
one_truth names e x y h k = let same : Some (truth x) ≡ Some (truth y) = sym h ∙ k in cc

one_number : (names : Names) (e : Expr) (x y : Linear) → MeansNumber names e x → MeansNumber names e y → x ≡ y
one_number names e x y h k = let same : Some (number x) ≡ Some (number y) = sym h ∙ k in cc

pub spelled_forms_are_read : SpelledFormsAreRead
unfolding form_of
spelled_forms_are_read names ts e f rest o l c none m =
    let read : formula_reader 32 (ts ++> rest) ≡ Ok (e, rest) = formula_complete true 32 32 (omega arith) ts e l rest c in
    let t = tells_test names e 0 (first_place rest) (laid (ts ++> rest) o ts rest refl e l) in
    let k = typed_so (test_faults_by names) (MeansTruth names) e (one_truth names e) (truth_of names e) t none f m in
    ap (typed_behind (truth_of names)) read ∙ ap (before rest) k

pub spelled_linears_are_read : SpelledLinearsAreRead
unfolding linear_of
spelled_linears_are_read names ts e f rest o l c none m =
    let read : sum_reader 32 (ts ++> rest) ≡ Ok (e, rest) = sums_complete 32 32 (omega arith) ts e l rest c in
    let t = tells_number names e 0 (first_place rest) (laid (ts ++> rest) o ts rest refl e (sum_as_formula ts e l)) in
    let k = typed_so (number_faults_by names) (MeansNumber names) e (one_number names e) (number_of names e) t none f m in
    ap (typed_behind (number_of names)) read ∙ ap (before rest) k

pub forms_are_told : FormsAreTold
unfolding form_of
forms_are_told names s o =
    tells ShallowFormula (DeepFormula true) (formula_reader 32)
    (rooms.stands formula_reader (SpellsWithin true) formula_sound (formula_complete true) formula_lawful 32)
    (rooms.first formula_reader (SpellsWithin true) formula_sound (formula_complete true) formula_lawful 32)
    (rooms.met formula_reader (SpellsWithin true) formula_sound (formula_complete true) formula_lawful 32)
    (truth_of names) (test_faults_by names) (MeansTruth names) s
    (λ e rest k. tells_test names e 0 (first_place rest) (laid s o k.text rest k.is e k.spells))

pub linears_are_told : LinearsAreTold
unfolding linear_of
linears_are_told names s o =
    tells ShallowSum Sum (sum_reader 32)
    (rooms.stands sum_reader SumWithin sums_sound sums_complete sums_lawful 32)
    (rooms.first sum_reader SumWithin sums_sound sums_complete sums_lawful 32)
    (rooms.met sum_reader SumWithin sums_sound sums_complete sums_lawful 32)
    (number_of names) (number_faults_by names) (MeansNumber names) s
    (λ e rest k. tells_number names e 0 (first_place rest) (laid s o k.text rest k.is e (sum_as_formula k.text e k.spells)))
