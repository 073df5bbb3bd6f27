use Rattle.expression_typer.proofs.Tells.{told_by}
use Rattle.expression_typer.proofs.laws.first_is_told_by_names.Goals as goal

pub returns : goal.returns
returns c = told_by
