use Rattle.std.proofs.Common.{◌≡◌, drop}
use Rattle.certificate_unfolding.specs.Sizes.{large_at}
use Rattle.certificate_unfolding.proofs.texts.first_large.Given as goal

abbrev pub invariant-loop-i : goal.invariant-loop-i
invariant-loop-i l = large_at l.sizes l.i (drop l.i l.roots) ≡ large_at l.sizes 0 l.roots
