use Rattle.std.proofs.Common.{length}
use Rattle.transition_system.specs.Plain.{plain_system}
use Rattle.constant_facts.specs.Greatest.{IsGreatest}
use Rattle.constant_facts.proofs.finding.settled.Given as goal

abbrev pub invariant-loop-left : goal.invariant-loop-left
invariant-loop-left l = IsGreatest l.components (plain_system l.fts) l.fn.facts.items l.left.items

abbrev pub decreases-loop-left : goal.decreases-loop-left
decreases-loop-left l = length l.left.items
