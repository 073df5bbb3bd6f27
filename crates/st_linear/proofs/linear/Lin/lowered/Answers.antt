use Rattle.st_linear.proofs.Joins.{to_z-small}
use Rattle.st_linear.proofs.linear.Lin.lowered.Goals as goal

pub invariant_of-result : goal.invariant_of-result
invariant_of-result c =
    rw (to_z-small _ c.lowered_number.ensures.small, c.in_ok-from_slice.ensures.ok, c.as_slice.ensures)
    (record { constant_small = c.lowered_number.ensures.small; entries_small = c.self.invariant.entries_small; entries = c.self.invariant.entries })
