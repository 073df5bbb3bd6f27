-- A goal, judged on a given run.
use Rattle.std.specs.Prelude.{◌≡◌, ℕ, ◌≤◌, ◌<◌, Bool, true, false, ◌||◌, List, map, Option, Some, None}
use Rattle.std.specs.List.{list_any}
use Rattle.st_form.specs.Formula.{Situation}
use Rattle.st_form.specs.declared.conditions.TransName.{TransName}
use Rattle.st_program.specs.Tree.{Processes}
use Rattle.observations.specs.Observation.{Observation, state_at, last}
use Rattle.observations.specs.Goals.{HoldsAt, WaitsFrom, RespondsFrom}
use Rattle.spl_semantics.specs.Stores.{Store}
use Rattle.spl_semantics.specs.Limits.{wide_form, wide_formula}
use Rattle.spl_semantics.specs.Runs.{State}
use Rattle.spl_semantics.specs.Observed.{observed}
use Rattle.temporal_goals.specs.Texts.{PlainGoal, invariant, waiting, response}
use Rattle.temporal_goals.specs.Meaning.{test_of, number_of, GoalHolds}
use Rattle.run_judging.specs.declared.judged.Judged.{Judged}
use Rattle.run_judging.specs.declared.judged.Judged.TheVariants.{Holds, Fails, Unclear}

-- some comparison of the goal, or its bound, is too large in the store
abbrev pub wide_goal : PlainGoal → Store → Bool
wide_goal (invariant p) s = wide_formula p s
wide_goal (waiting p forms) s = wide_formula p s || list_any (λ f. wide_formula f s) forms
wide_goal (response p q bound) s = wide_formula p s || (wide_formula q s || wide_form bound s)

-- the store that is seen
abbrev pub store_in : Situation → Store
store_in x = record { numbers = x.numbers; truths = x.truths }

-- the goal is too large in the state at the position
abbrev pub wide_at : PlainGoal → Observation Situation → ℕ → Bool
wide_at g o i = wide_goal g (store_in (state_at o i))

-- the goal is too large in no state
abbrev pub IsClear : PlainGoal → Observation Situation → Type 0
IsClear g o = (i : ℕ) → i ≤ last o → wide_at g o i ≡ false

-- the goal's sentence holds from the position; the goal holds where it does so from each
abbrev pub GoalFrom : PlainGoal → Observation Situation → ℕ → Type 0
GoalFrom (invariant p) o = HoldsAt (test_of p) o
GoalFrom (waiting p forms) o = WaitsFrom (test_of p) (map test_of forms) o
GoalFrom (response p q bound) o = RespondsFrom (test_of p) (test_of q) (number_of bound) o

-- the goal is unclear at the first state in which it is too large. Where there is none it fails at the least position from
-- which its sentence fails, and holds where there is none of these either
abbrev pub JudgedOn : PlainGoal → Observation Situation → Judged → Type 0
JudgedOn g o Holds = IsClear g o × GoalHolds g o
JudgedOn g o (Fails i) = IsClear g o × (i ≤ last o) × (¬ (GoalFrom g o i)) × ((j : ℕ) → j < i → GoalFrom g o j)
JudgedOn g o (Unclear i) = (i ≤ last o) × (wide_at g o i ≡ true) × ((j : ℕ) → j < i → wide_at g o j ≡ false)

-- what is judged of a goal that is clear, from the least position from which it fails
abbrev pub judged_by : Option ℕ → Judged
judged_by None = Holds
judged_by (Some i) = Fails i

-- what is judged of a goal on a run of a program
abbrev pub IsJudgement : Processes → State → List (TransName × State) → PlainGoal → Judged → Type 0
IsJudgement p s later g judged = JudgedOn g (observed p s later) judged
