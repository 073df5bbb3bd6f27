use Rattle.std.proofs.Common.{◌≡◌, [], drop, length}
use Rattle.search_laws.specs.States.{standing_from}
use Rattle.linear_prover.proofs.shown.standing.Given as goal

abbrev pub invariant-loop-part : goal.invariant-loop-part
invariant-loop-part l = record {
  same : standing_from l.cases l.stood.items (drop l.part-index l.parts) ≡ standing_from l.cases [] l.parts;
  as_many : length l.stood.items ≡ l.part-index;
}
