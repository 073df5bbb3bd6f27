use Rattle.std.proofs.Common.{◌-◌, length, map}
use Rattle.temporal_goals.specs.Plain.{plain_step}
use Rattle.cited_steps.specs.Looking.{AreGathered}
use Rattle.cited_steps.proofs.needing.needed_steps.Given as goal

abbrev pub invariant-loop-behind : goal.invariant-loop-behind
invariant-loop-behind l = AreGathered (map plain_step l.steps) l.goals (length l.steps - l.behind) l.needed.items
