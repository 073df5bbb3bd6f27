-- What goals say of a run of a transition system: of what is seen of the run, its states being situations.
use Rattle.std.specs.Prelude.{Bool, ℤ, map}
use Rattle.st_linear.specs.Linear.{Linear, value}
use Rattle.st_form.specs.Formula.{Formula, Situation, truth}
use Rattle.observations.specs.Observation.{Observation}
use Rattle.observations.specs.Goals.{Invariance, Waiting, Response}
use Rattle.temporal_goals.specs.Texts.{PlainGoal, invariant, waiting, response}

-- a formula as a test of states
abbrev pub test_of : Formula → Situation → Bool
test_of f s = truth s f

-- a linear form as a number in each state
abbrev pub number_of : Linear → Situation → ℤ
number_of f s = value s.numbers f

abbrev pub GoalHolds : PlainGoal → Observation Situation → Type 0
GoalHolds (invariant p) o = Invariance (test_of p) o
GoalHolds (waiting p forms) o = Waiting (test_of p) (map test_of forms) o
GoalHolds (response p q bound) o = Response (test_of p) (test_of q) (number_of bound) o
