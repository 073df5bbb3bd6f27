use Rattle.std.proofs.Common.{◌≡◌, ◌+◌, ◌≤◌, min, drop}
use Rattle.certificate_unfolding.specs.Sizes.{sum_in}
use Rattle.certificate_unfolding.proofs.sizes.sum.Given as goal

abbrev pub invariant-loop-part : goal.invariant-loop-part
invariant-loop-part l = (l.sum ≤ 100001) × (min (l.sum + sum_in l.sizes (drop l.part-index l.parts)) 100001 ≡ min (1 + sum_in l.sizes l.parts) 100001)
