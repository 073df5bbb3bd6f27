-- A chain of terms or factors, typed from the left. Nobody has to believe this page: that it gives what Typing gives of the same
-- tree, grouped from the left, is a lemma.
use Rattle.std.specs.Prelude.{ℕ, if◌then◌else◌, List, [], ◌∷◌, Result, Ok}
use Rattle.expression_parser.specs.declared.raw.Operator.{Operator}
use Rattle.expression_parser.specs.declared.raw.RawTerm.{RawTerm}
use Rattle.expression_parser.specs.ExpressionTree.{Expr, expr_view, start_of}
use Rattle.st_program.specs.Tree.{Term, truth}
use Rattle.expression_typer.specs.declared.fault.TypeFault.{TypeFault}
use Rattle.expression_typer.specs.Answers.{◌>>=◌}
use Rattle.expression_typer.specs.Scope.{Names}
use Rattle.expression_typer.specs.Typing.{typed_by, as_number, as_truth, combine, implied, is_implication}

-- an operator between a value, whose expression begins at a place, and an expression
abbrev pub paired : Names → Operator → ℕ → ℕ → Term → Expr → Result Term TypeFault
paired s o at place x r =
    if is_implication o
    then (as_truth place x >>= λ f. typed_by s r >>= λ y. as_truth (start_of r) y >>= λ g. Ok (truth (implied f g)))
    else (as_number place x >>= λ f. typed_by s r >>= λ y. as_number (start_of r) y >>= λ g. combine o at f g)

-- a value with further terms behind it
abbrev pub chained : Names → ℕ → Term → List RawTerm → Result Term TypeFault
chained s place x [] = Ok x
chained s place x (t ∷ ts) = paired s t.operator t.at place x (expr_view t.of) >>= λ y. chained s place y ts
