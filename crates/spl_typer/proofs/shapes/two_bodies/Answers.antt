use Rattle.spl_typer.proofs.Tables.{bodies_two}
use Rattle.spl_typer.proofs.shapes.two_bodies.Goals as goal

pub returns : goal.returns
returns c = bodies_two c.args.raws.now
