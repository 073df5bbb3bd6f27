use Rattle.std.proofs.Common.{◌≡◌, ◌++◌, drop}
use Rattle.shown_states.specs.Pictures.{fronts_of}
use Rattle.shown_states.proofs.pictures.fronts_of.Given as goal

abbrev pub invariant-loop-entry : goal.invariant-loop-entry
invariant-loop-entry l = l.fronts.items ++ fronts_of (drop l.entry-index l.control) ≡ fronts_of l.control
