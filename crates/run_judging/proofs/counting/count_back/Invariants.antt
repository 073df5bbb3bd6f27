use Rattle.std.proofs.Common.{◌≡◌, ◌<◌, ◌≤◌, ◌+◌, ℕ, length, slice_index}
use Rattle.observations.specs.Observation.{Observation}
use Rattle.st_form.specs.Formula.{Situation}
use Rattle.run_judging.specs.Shown.{Shows}
use Rattle.run_judging.proofs.Looking.{AreAhead}
use Rattle.run_judging.proofs.Backwards.{IsEnd, AreGreatestFrom}
use Rattle.run_judging.proofs.counting.count_back.Given as goal

abbrev pub invariant-loop-position : goal.invariant-loop-position
invariant-loop-position l = record {
  within : l.position ≤ l.never;
  counts : length l.counts ≡ l.never;
  aheads : length l.aheads ≡ length l.course.fairness.items;
  small : (m : ℕ) → m < l.never → slice_index l.counts m + m < l.never;
  end : IsEnd l.barred l.never l.position l.end;
  ahead : (o : Observation Situation) → Shows l.course o → AreAhead o l.position l.aheads;
  greatest : (o : Observation Situation) → Shows l.course o → AreGreatestFrom o l.barred l.position l.counts;
}

abbrev pub decreases-loop-position : goal.decreases-loop-position
decreases-loop-position l = l.position
