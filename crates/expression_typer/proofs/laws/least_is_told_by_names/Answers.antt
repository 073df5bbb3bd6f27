use Rattle.expression_typer.proofs.Rising.{least_by}
use Rattle.expression_typer.proofs.laws.least_is_told_by_names.Goals as goal

pub returns : goal.returns
returns c = least_by
