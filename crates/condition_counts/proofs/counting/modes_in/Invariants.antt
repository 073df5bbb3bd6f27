use Rattle.std.proofs.Common.{◌≡◌, ◌+◌, drop, map}
use Rattle.transition_system.specs.Plain.{plain_transition}
use Rattle.condition_counts.specs.Sums.{modes_among}
use Rattle.condition_counts.proofs.counting.modes_in.Given as goal

abbrev pub invariant-loop-transition : goal.invariant-loop-transition
invariant-loop-transition l = l.count + modes_among (map plain_transition (drop l.transition-index l.transitions)) ≡ modes_among (map plain_transition l.transitions)
