use Rattle.st_linear.proofs.Joins.{to_z-small}
use Rattle.st_linear.proofs.Dividing.{AreEntries-negated, are_small-negated}
use Rattle.st_linear.proofs.linear.Lin.negated.Goals as goal

pub invariant_of-result : goal.invariant_of-result
invariant_of-result c =
    rw (to_z-small _ c.negated_number.ensures.small, c.in_ok-negate_entries.ensures, c.as_slice.ensures)
    (record {
      constant_small = c.negated_number.ensures.small;
      entries_small = are_small-negated _ c.self.invariant.entries_small;
      entries = AreEntries-negated _ c.self.invariant.entries;
    })
