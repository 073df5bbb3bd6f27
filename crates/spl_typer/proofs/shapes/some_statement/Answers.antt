use Rattle.spl_typer.proofs.Tables.{statements_some}
use Rattle.spl_typer.proofs.shapes.some_statement.Goals as goal

pub returns : goal.returns
returns c = statements_some c.args.items.now c.is_empty.result c.is_empty.ensures
