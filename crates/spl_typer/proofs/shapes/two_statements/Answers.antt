use Rattle.spl_typer.proofs.Tables.{statements_two}
use Rattle.spl_typer.proofs.shapes.two_statements.Goals as goal

pub returns : goal.returns
returns c = statements_two c.args.items.now
