use Rattle.std.proofs.Common.{◌≡◌, drop}
use Rattle.agreeing_states.specs.Kleene.{are_known}
use Rattle.agreeing_states.proofs.telling.are_known.Given as goal

abbrev pub invariant-loop-entry : goal.invariant-loop-entry
invariant-loop-entry l = are_known l.flags (drop l.entry-index l.entries) ≡ are_known l.flags l.entries
