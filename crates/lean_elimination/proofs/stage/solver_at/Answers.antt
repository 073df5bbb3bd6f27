use Rattle.std.proofs.Common.{arith, length}
use Rattle.lean_elimination.proofs.Growing.{under-at}
use Rattle.lean_elimination.proofs.stage.solver_at.Goals as goal

pub solves-requires : goal.solves-requires
solves-requires c = under-at (length c.args.arena.now.rows.items) c.args.list.now c.loop-i.i 0 c.requires (omega arith)
