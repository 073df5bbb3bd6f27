-- What is promised of a goal, of finite runs and of infinite ones.
use Rattle.std.specs.Prelude.{ℕ}
use Rattle.st_form.specs.Formula.{Formula}
use Rattle.st_program.specs.Tree.{Processes}
use Rattle.spl_semantics.specs.Runs.{State, image}
use Rattle.temporal_goals.specs.Texts.{PlainGoal}
use Rattle.obligation_laws.specs.Obligations.{HoldsOnRuns}
use Rattle.fair_runs.specs.Goals.{HoldsAlong, HoldsEventually}
use Rattle.fair_runs.specs.Sequences.{IsSequenceOf, IsFairSequence, IsFairSequenceClassically}
use Rattle.fair_runs.specs.Meeting.{IsMet}

-- the goal holds on every run; along every fair sequence of states, and with "eventually" for "there is" along every one
-- that is fair in this sense; and where it is a response, it is met
pub record IsKept (p : Processes) (initial : Formula) (goal : PlainGoal) : Type 0 where
  pub on_runs : HoldsOnRuns p initial goal
  pub along : (state : ℕ → State) → IsSequenceOf p initial state → IsFairSequence p state → HoldsAlong goal (λ k. image p (state k))
  pub eventually : (state : ℕ → State) → IsSequenceOf p initial state → IsFairSequenceClassically p state → HoldsEventually goal (λ k. image p (state k))
  pub met : IsMet p initial goal
