-- What is seen of a run, computed: a name is looked for in the list of a state's steps. The laws join this to what `Runs` says is
-- seen.
use Rattle.std.specs.Prelude.{Bool, true, List, map}
use Rattle.std.specs.List.{list_any}
use Rattle.st_form.specs.Formula.{Situation}
use Rattle.st_form.specs.declared.conditions.TransName.{TransName}
use Rattle.st_form.specs.declared.conditions.TransName.TheVariants.{Idle, Step}
use Rattle.observations.specs.Observation.{Moment, Observation}
use Rattle.st_program.specs.Tree.{Processes}
use Rattle.spl_semantics.specs.Steps.{steps_of}
use Rattle.spl_semantics.specs.Names.{all_names, same_name}
use Rattle.spl_semantics.specs.Runs.{State, image, place_of}

-- whether some step has the name, computed from the list of steps; idling is always a step
abbrev pub is_enabled : Processes → State → TransName → Bool
is_enabled p s Idle = true
is_enabled p s (Step o part) = list_any (λ a. same_name a.name (Step o part)) (steps_of s.left p s.store)

abbrev pub enabled_names : Processes → State → List Bool
enabled_names p s = map (λ n. is_enabled p s n.0) (all_names p)

abbrev pub seen : Processes → State → Moment Situation
seen p s = record { state = image p s; enabled = enabled_names p s }

-- what is seen of a run
abbrev pub observed : Processes → State → List (TransName × State) → Observation Situation
observed p s later = record {
  fairness = map (λ n. n.1) (all_names p);
  first = seen p s;
  later = map (λ step. (place_of p step.0, seen p step.1)) later;
}
