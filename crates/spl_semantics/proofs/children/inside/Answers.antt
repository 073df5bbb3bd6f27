use Rattle.st_program.proofs.ResidualRows.{residual-Inside}
use Rattle.spl_semantics.proofs.children.inside.Goals as goal

pub returns : goal.returns
returns c = residual-Inside c.args.coop c.args.children
