use Rattle.std.proofs.Common.{drop}
use Rattle.lean_elimination.specs.Arenas.{tracks, listed}
use Rattle.lean_elimination.specs.Placings.{AreFree}
use Rattle.lean_elimination.proofs.stage.are_free.Given as goal

abbrev pub invariant-loop-k : goal.invariant-loop-k
invariant-loop-k l = AreFree l.var (listed (tracks l.arena.rows.items) (drop l.k-index l.list)) → AreFree l.var (listed (tracks l.arena.rows.items) l.list)
