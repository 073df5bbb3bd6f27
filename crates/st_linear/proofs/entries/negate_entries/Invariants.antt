use Rattle.std.proofs.Common.{◌≡◌, map, take, neg_ℤ}
use Rattle.st_linear.proofs.entries.negate_entries.Given as goal

abbrev pub invariant-loop-e : goal.invariant-loop-e
invariant-loop-e l = l.out.items ≡ map (λ e. (e.0, neg_ℤ e.1)) (take l.e-index l.entries)
