use Rattle.std.proofs.Common.{◌≤◌, List, Bool, length}
use Rattle.observations.specs.Observation.{Observation}
use Rattle.observations.specs.Goals.{WaitsFrom}
use Rattle.st_form.specs.Formula.{Situation}
use Rattle.run_judging.specs.Shown.{AreFlags, AreRows}
use Rattle.run_judging.proofs.Sentences.{IsFirstFailureFrom}
use Rattle.run_judging.proofs.Levels.{LowestFrom}
use Rattle.run_judging.proofs.judging.waiting_failure.Given as goal

abbrev pub invariant-loop-position : goal.invariant-loop-position
invariant-loop-position l = record {
  within : l.position ≤ length l.rows;
  lowest : (o : Observation Situation) (forms : List (Situation → Bool)) → AreRows forms o l.rows → LowestFrom o forms l.position l.lowest;
  failure : (o : Observation Situation) (p : Situation → Bool) (forms : List (Situation → Bool)) → AreFlags p o l.premise → AreRows forms o l.rows → IsFirstFailureFrom l.position (length l.rows) (WaitsFrom p forms o) l.failure;
}

abbrev pub decreases-loop-position : goal.decreases-loop-position
decreases-loop-position l = l.position
