use Rattle.expression_typer.specs.Scope.{only}
use Rattle.expression_typer.proofs.Rising.{least_by}
use Rattle.expression_typer.proofs.laws.least_is_told.Goals as goal

pub returns : goal.returns
returns c = λ s e from to m h f i. least_by (only s) e from to m h f i
