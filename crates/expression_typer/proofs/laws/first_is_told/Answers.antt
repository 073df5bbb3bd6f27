use Rattle.expression_typer.proofs.Tells.{told}
use Rattle.expression_typer.proofs.laws.first_is_told.Goals as goal

pub returns : goal.returns
returns c = told
