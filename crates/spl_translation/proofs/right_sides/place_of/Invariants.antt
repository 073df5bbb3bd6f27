use Rattle.std.proofs.Common.{◌≡◌, ◌+◌, drop}
use Rattle.spl_translation.specs.Making.{place_of}
use Rattle.spl_translation.proofs.right_sides.place_of.Given as goal

abbrev pub invariant-loop-place : goal.invariant-loop-place
invariant-loop-place g l = place_of l.var l.pairs ≡ l.place + place_of l.var (drop l.place l.pairs)
