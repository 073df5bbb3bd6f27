use Rattle.std.proofs.Common.{◌≡◌, take}
use Rattle.lean_elimination.proofs.top.copy.Given as goal

abbrev pub invariant-loop-p : goal.invariant-loop-p
invariant-loop-p l = l.out.items ≡ take l.p-index l.picks
