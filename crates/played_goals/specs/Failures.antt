-- A goal that fails on a run, and on all that go on from it.
use Rattle.std.specs.Prelude.{ℕ, List, ◌++◌}
use Rattle.st_form.specs.Formula.{Situation}
use Rattle.st_form.specs.declared.conditions.TransName.{TransName}
use Rattle.st_program.specs.Tree.{Processes}
use Rattle.observations.specs.Observation.{Observation}
use Rattle.spl_semantics.specs.Runs.{State, IsSeenOf}
use Rattle.temporal_goals.specs.Texts.{PlainGoal}
use Rattle.temporal_goals.specs.Meaning.{GoalHolds}
use Rattle.run_judging.specs.declared.judged.Judged.TheVariants.{Fails}
use Rattle.trace_player.specs.Judgements.{JudgedOn}

-- at some position the goal is judged to fail
abbrev pub FailsOn : PlainGoal → Observation Situation → Type 0
FailsOn goal o = (i : ℕ) × JudgedOn goal o (Fails i)

-- on no run that goes on from this one does the goal hold
abbrev pub FailsBehind : Processes → State → List (TransName × State) → PlainGoal → Type 0
FailsBehind p s later goal =
    (more : List (TransName × State)) (longer : Observation Situation) → IsSeenOf p s (later ++ more) longer → ¬ (GoalHolds goal longer)
