use Rattle.std.proofs.Common.{◌≡◌, ◌++◌, drop}
use Rattle.elimination_laws.specs.Stages.{turned}
use Rattle.lean_elimination.proofs.top.turned_copy.Given as goal

abbrev pub invariant-loop-p : goal.invariant-loop-p
invariant-loop-p l = l.out.items ++ turned (drop l.p-index l.picks) ≡ turned l.picks
