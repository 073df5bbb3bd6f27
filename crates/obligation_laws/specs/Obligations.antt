-- What valid conditions prove of a program: the goal holds on every run, by the interleaved steps of SPL.
use Rattle.std.specs.Prelude.{List, [], ◌∷◌, ⊤}
use Rattle.st_form.specs.Formula.{Formula, Situation}
use Rattle.observations.specs.Observation.{Observation}
use Rattle.st_program.specs.Tree.{Processes}
use Rattle.control_states.specs.Control.{ControlFacts}
use Rattle.control_facts.specs.Alternatives.{control_of}
use Rattle.farkas_check.specs.Meaning.{IsValidCondition}
use Rattle.spl_semantics.specs.Runs.{IsRunOf}
use Rattle.transition_system.specs.Systems.{System}
use Rattle.temporal_goals.specs.Texts.{PlainGoal, invariant}
use Rattle.temporal_goals.specs.Meaning.{GoalHolds}
use Rattle.vc_generator.specs.Building.{Draft}
use Rattle.rule_laws.specs.Laws.{Proves}

-- each condition is valid: it holds in every control state with every store
abbrev pub AreValid : ControlFacts → List Draft → Type 0
AreValid k [] = ⊤
AreValid k (d ∷ ds) = IsValidCondition k d.condition.given d.condition.shown × AreValid k ds

-- the goal holds of what is seen of each run of the program
abbrev pub HoldsOnRuns : Processes → Formula → PlainGoal → Type 0
HoldsOnRuns p initial goal = (o : Observation Situation) → IsRunOf p initial o → GoalHolds goal o

abbrev pub AreInvariant : Processes → Formula → List Formula → Type 0
AreInvariant p initial [] = ⊤
AreInvariant p initial (f ∷ fs) = HoldsOnRuns p initial (invariant f) × AreInvariant p initial fs

-- where the conditions of a rule that proves the goal on a system are valid, and the cited formulas are invariant, the goal
-- holds on every run of the program whose runs are the system's
abbrev pub ValidIsEnough : Processes → Formula → System → Type 0
ValidIsEnough p initial system =
    (lemmas : List Formula) (conditions : List Draft) (goal : PlainGoal) → Proves system lemmas conditions goal
    → AreInvariant p initial lemmas → AreValid (control_of p) conditions → HoldsOnRuns p initial goal
