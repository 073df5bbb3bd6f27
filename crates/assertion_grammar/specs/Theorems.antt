-- What is promised of formulas and integer expressions as they stand in proofs.
use Rattle.std.specs.Prelude.{◌≡◌, true, List, [], Some, Ok}
use Rattle.st_tokens.specs.Stream.{◌++>◌, Lexeme, Stream}
use Rattle.st_reading.specs.Reading.{ahead}
use Rattle.st_linear.specs.Linear.{Linear}
use Rattle.st_form.specs.Formula.{Formula}
use Rattle.st_program.specs.Tree.{number, truth}
use Rattle.expression_parser.specs.ExpressionTree.{Expr}
use Rattle.expression_parser.specs.Calm.{calm}
use Rattle.expression_parser.specs.Grammar.{Formula as DeepFormula}
use Rattle.expression_typer.specs.Scope.{Names}
use Rattle.expression_typer.specs.Rules.{meaning_by}
use Rattle.assertions.specs.Reading.{form_of, linear_of}
use Rattle.assertion_grammar.specs.Standing.{ShallowFormula, ShallowSum, Sum, IsOfText, test_faults_by, number_faults_by, Tells}

abbrev pub SumsReadOnce : Type 0
SumsReadOnce = (ts : List Lexeme) (x y : Expr) → Sum ts x → Sum ts y → x ≡ y

abbrev pub MeansTruth : Names → Expr → Formula → Type 0
MeansTruth names e f = meaning_by names e ≡ Some (truth f)

abbrev pub MeansNumber : Names → Expr → Linear → Type 0
MeansNumber names e f = meaning_by names e ≡ Some (number f)

-- before a token that continues no formula
abbrev pub SpelledFormsAreRead : Type 0
SpelledFormsAreRead = (names : Names) (ts : List Lexeme) (e : Expr) (f : Formula) (rest : Stream) → IsOfText (ts ++> rest) → ShallowFormula ts e → calm (ahead rest) ≡ true → test_faults_by names e ≡ [] → MeansTruth names e f → form_of names (ts ++> rest) ≡ Ok (f, rest)

abbrev pub SpelledLinearsAreRead : Type 0
SpelledLinearsAreRead = (names : Names) (ts : List Lexeme) (e : Expr) (f : Linear) (rest : Stream) → IsOfText (ts ++> rest) → ShallowSum ts e → calm (ahead rest) ≡ true → number_faults_by names e ≡ [] → MeansNumber names e f → linear_of names (ts ++> rest) ≡ Ok (f, rest)

abbrev pub FormsAreTold : Type 0
FormsAreTold = (names : Names) (s : Stream) → IsOfText s → Tells ShallowFormula (DeepFormula true) (test_faults_by names) (MeansTruth names) s (form_of names s)

abbrev pub LinearsAreTold : Type 0
LinearsAreTold = (names : Names) (s : Stream) → IsOfText s → Tells ShallowSum Sum (number_faults_by names) (MeansNumber names) s (linear_of names s)
