use Rattle.std.proofs.Common.{◌≡◌, ◌-◌, ◌++◌}
use Rattle.equation_laws.specs.Rows.{over_places}
use Rattle.linear_invariants.specs.Plain.{passage_by}
use Rattle.linear_invariants.proofs.requirements.push_places.Given as goal

abbrev pub invariant-loop-location : goal.invariant-loop-location
invariant-loop-location l =
    l.out.items ++ over_places l.variables (passage_by l.enters l.leaves) (l.locations - l.location) l.location
    ≡ l.fn.out.items ++ over_places l.variables (passage_by l.enters l.leaves) l.locations 0
