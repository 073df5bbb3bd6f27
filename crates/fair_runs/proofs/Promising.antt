-- What is promised of a goal is that it is kept: both readings of the goals and of fairness are those of the laws on computations.
use Rattle.std.proofs.Common.{◌↔◌, ℕ}
use Rattle.st_form.specs.Formula.{Formula, Situation}
use Rattle.st_program.specs.Tree.{Processes}
use Rattle.spl_semantics.specs.Runs.{State, image}
use Rattle.temporal_goals.specs.Texts.{PlainGoal, invariant, waiting, response}
use Rattle.fair_runs.specs.Goals.{HoldsAlong, HoldsEventually}
use Rattle.fair_runs.specs.Sequences.{IsFairSequence, IsFairSequenceClassically}
use Rattle.fair_runs.specs.Meeting.{IsMet}
use Rattle.fair_runs.specs.Kept.{IsKept}
use Rattle.fair_runs.specs.Promises.{Sometime, NotNever, Compassion, ClassicalCompassion, IsFairIn, HoldsIn, CanBeMet, Promise}

module _ (p : Processes) (state : ℕ → State) where
  fair : IsFairIn Sometime Compassion p state → IsFairSequence p state
  fair f = record { just = f.just; compassionate = f.compassionate }

  fair_in : IsFairSequence p state → IsFairIn Sometime Compassion p state
  fair_in f = record { just = f.just; compassionate = f.compassionate }

  classically : IsFairIn NotNever ClassicalCompassion p state → IsFairSequenceClassically p state
  classically f = record { just = f.just; compassionate = f.compassionate }

  classically_in : IsFairSequenceClassically p state → IsFairIn NotNever ClassicalCompassion p state
  classically_in f = record { just = f.just; compassionate = f.compassionate }

along_same : (goal : PlainGoal) (state : ℕ → Situation) → HoldsAlong goal state ↔ HoldsIn Sometime goal state
along_same (invariant f) state = (λ h. h, λ h. h)
along_same (waiting f forms) state = (λ h. h, λ h. h)
along_same (response f g bound) state = (λ h. h, λ h. h)

eventually_same : (goal : PlainGoal) (state : ℕ → Situation) → HoldsEventually goal state ↔ HoldsIn NotNever goal state
eventually_same (invariant f) state = (λ h. h, λ h. h)
eventually_same (waiting f forms) state = (λ h. h, λ h. h)
eventually_same (response f g bound) state = (λ h. h, λ h. h)

met_same : (p : Processes) (initial : Formula) (goal : PlainGoal) → IsMet p initial goal ↔ CanBeMet p initial goal
met_same p initial (invariant f) = (λ h. h, λ h. h)
met_same p initial (waiting f forms) = (λ h. h, λ h. h)
met_same p initial (response f g bound) = (λ h. h, λ h. h)

pub promised : (p : Processes) (initial : Formula) (goal : PlainGoal) → IsKept p initial goal → Promise p initial goal
promised p initial goal k = record {
  on_runs = k.on_runs;
  along = λ state is f. (along_same goal (λ i. image p (state i))).0 (k.along state is (fair p state f));
  eventually = λ state is f. (eventually_same goal (λ i. image p (state i))).0 (k.eventually state is (classically p state f));
  met = (met_same p initial goal).0 k.met;
}

kept : (p : Processes) (initial : Formula) (goal : PlainGoal) → Promise p initial goal → IsKept p initial goal
kept p initial goal k = record {
  on_runs = k.on_runs;
  along = λ state is f. (along_same goal (λ i. image p (state i))).1 (k.along state is (fair_in p state f));
  eventually = λ state is f. (eventually_same goal (λ i. image p (state i))).1 (k.eventually state is (classically_in p state f));
  met = (met_same p initial goal).1 k.met;
}

pub promise_is_kept : (p : Processes) (initial : Formula) (goal : PlainGoal) → Promise p initial goal ↔ IsKept p initial goal
promise_is_kept p initial goal = (kept p initial goal, promised p initial goal)
