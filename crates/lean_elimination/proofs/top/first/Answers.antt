use Rattle.lean_elimination.proofs.Answering.{one-bounded}
use Rattle.lean_elimination.proofs.top.first.Goals as goal

pub returns-clause-bounded : goal.returns-clause-bounded
returns-clause-bounded c ts = one-bounded c.args.number
