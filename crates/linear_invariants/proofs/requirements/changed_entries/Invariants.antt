use Rattle.std.proofs.Common.{◌≡◌, ◌++◌, drop}
use Rattle.equation_laws.specs.Rows.{over_changed}
use Rattle.linear_invariants.specs.Plain.{gain_of}
use Rattle.linear_invariants.proofs.requirements.changed_entries.Given as goal

abbrev pub invariant-loop-pair : goal.invariant-loop-pair
invariant-loop-pair l = l.out.items ++ over_changed (gain_of l.of) (drop l.pair-index l.numbers) ≡ over_changed (gain_of l.of) l.numbers
