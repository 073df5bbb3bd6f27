-- The law of the restatement: the conditions are those that the rules' laws and the program speak of.
use Rattle.std.specs.Prelude.{◌≡◌, List}
use Rattle.transition_system.specs.Systems.{System}
use Rattle.temporal_goals.specs.Texts.{PlainStep}
use Rattle.script_laws.specs.Script.{script_list}
use Rattle.generated_conditions.specs.Scripts.{generated}

-- the conditions, their order, their names and their sizes
abbrev pub ConditionsAreGenerated : Type 0
ConditionsAreGenerated = (system : System) (steps : List PlainStep) → generated system steps ≡ script_list system steps
