-- What generating the conditions of a script comes to.
use Rattle.std.specs.Prelude.{◌≡◌, ℕ, List, [], map, All, Option, Some, None}
use Rattle.st_form.specs.Shared.{given_of, shown_of}
use Rattle.st_form.specs.declared.conditions.Condition.{Condition}
use Rattle.st_form.specs.Condition.{Implication}
use Rattle.control_states.specs.Control.{ControlFacts}
use Rattle.farkas_check.specs.Meaning.{IsValidCondition}
use Rattle.vc_generator.specs.declared.faults.VcFault.{VcFault}
use Rattle.vc_generator.specs.declared.faults.VcFault.TheVariants as limits
use Rattle.transition_system.specs.Systems.{System}
use Rattle.temporal_goals.specs.Texts.{PlainStep}
use Rattle.script_laws.specs.Script.{script_list}
use Rattle.script_laws.specs.Refused.{refused_at}
use Rattle.obligations.specs.declared.faults.ObligationFault.{ObligationFault}
use Rattle.obligations.specs.declared.faults.ObligationFault.TheVariants as faults

-- the fault is this first refusal: the limit that is passed, and the number of the step; want of memory is free
abbrev pub IsRefusal : ObligationFault → Option (VcFault × ℕ) → Type 0
IsRefusal (faults.TooMany n) first = first ≡ Some (limits.TooMany, n)
IsRefusal (faults.TooWide n) first = first ≡ Some (limits.TooWide, n)
IsRefusal (faults.TooHeavy n) first = first ≡ Some (limits.TooHeavy, n)
IsRefusal faults.Memory first = Unit {0}

-- each condition is valid: it holds in every control state with every store
abbrev pub AllValid : ControlFacts → List Condition → Type 0
AllValid k cs = All (λ c. IsValidCondition k (given_of c) (shown_of c)) cs

-- the list has the conditions of these steps, and none of them is refused
pub record AreAppended (system : System) (steps : List PlainStep) (list : List Implication) : Type 0 where
  pub none : refused_at [] (script_list system steps) ≡ None
  pub these : list ≡ map (λ d. d.condition) (script_list system steps)
