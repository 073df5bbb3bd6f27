use Rattle.std.proofs.Common.{refl}
use Rattle.st_linear.specs.Linear.{is_within}
use Rattle.st_linear.proofs.linear.Lin.variable.Goals as goal

pub invariant_of-result : goal.invariant_of-result
unfolding is_within
invariant_of-result c = rw (c.in_ok-push.ensures.ok, c.new-entries.ensures.items) (record { constant_small = refl; entries_small = refl; entries = (tt, λ e. cc, tt) })
