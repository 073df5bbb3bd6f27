-- What reading a formula or a sum answers: the longest one that stands at the front of the tokens is read, and then typed by
-- what its names stand for. A fault of the grammar comes before every rule of typing.
use Rattle.std.specs.Prelude.{Result, Ok, Err, true}
use Rattle.st_tokens.specs.Stream.{Stream}
use Rattle.st_reading.specs.Reading.{Read, other}
use Rattle.st_reading.specs.Faults.{Passed}
use Rattle.st_reading.specs.Breaches.{Breach, Reader}
use Rattle.st_linear.specs.Linear.{Linear}
use Rattle.st_form.specs.Formula.{Formula}
use Rattle.expression_parser.specs.ExpressionTree.{Expr, start_of}
use Rattle.expression_parser.specs.Reading.{below, expression_of, sum_of}
use Rattle.expression_typer.specs.declared.fault.TypeFault.{TypeFault}
use Rattle.expression_typer.specs.Answers.{◌>>=◌}
use Rattle.expression_typer.specs.Scope.{Names}
use Rattle.expression_typer.specs.Typing.{typed_by, as_truth, as_number}
use Rattle.assertions.specs.Faults.{of_stop, of_rule}

-- an expression as a formula, and as a number
abbrev pub truth_of : Names → Expr → Result Formula TypeFault
truth_of names e = typed_by names e >>= λ x. as_truth (start_of e) x

abbrev pub number_of : Names → Expr → Result Linear TypeFault
number_of names e = typed_by names e >>= λ x. as_number (start_of e) x

abbrev pub before : {A : Type 0} → Stream → Result A TypeFault → Read Breach A
before rest (Ok x) = Ok (x, rest)
before rest (Err f) = Err (other (of_rule f))

abbrev pub typed_behind : {A : Type 0} → (Expr → Result A TypeFault) → Read Passed Expr → Read Breach A
typed_behind typing (Ok x) = before x.1 (typing x.0)
typed_behind typing (Err f) = Err (of_stop f)

-- the formula, and the integer expression, at most 32 levels deep, with `at` names
unfoldable pub form_of : Names → Reader Formula
form_of names s = typed_behind (truth_of names) (expression_of true (below true 32) s)

unfoldable pub linear_of : Names → Reader Linear
linear_of names s = typed_behind (number_of names) (sum_of true (below true 32) s)
