use Rattle.std.proofs.Common.{arith, length}
use Rattle.lean_elimination.proofs.Growing.{under-at}
use Rattle.lean_elimination.proofs.stage.are_free.Goals as goal

pub part_at-requires : goal.part_at-requires
part_at-requires c = under-at (length c.args.arena.now.rows.items) c.args.list.now c.loop-k.k-index 0 c.requires (omega arith)
