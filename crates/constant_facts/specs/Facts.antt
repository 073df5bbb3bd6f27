-- Facts of the form "where control is at this location, this variable has this value", and what it is that all runs keep them
-- (Kildall, *A unified approach to global program optimization*, POPL 1973; an invariant that each step keeps is one of all runs:
-- Manna and Pnueli, *Temporal Verification of Reactive Systems: Safety*, section 1.3).
use Rattle.std.specs.Prelude.{◌≡◌, ℕ, true, IsTrue, List, flat_map}
use Rattle.list_laws.specs.Each.{Each}
use Rattle.st_form.specs.Formula.{Situation, truth}
use Rattle.control_states.specs.declared.alternative.Alternative.{Alternative}
use Rattle.control_states.specs.Control.{ControlFacts, InControl}
use Rattle.transition_system.specs.Systems.{PlainMode, System}
use Rattle.transition_system.specs.Meaning.{can_go, gone}
use Rattle.constant_facts.specs.declared.fact.Constant.{Constant}
use Rattle.constant_facts.specs.declared.fact.Constant.TheVariants.{Number, Truth}
use Rattle.constant_facts.specs.declared.fact.Fact.{Fact}

-- the variable has the value
abbrev pub Has : Situation → ℕ → Constant → Type 0
Has s v (Number z) = s.numbers v ≡ z
Has s v (Truth b) = s.truths v ≡ b

-- where control is at the fact's location, its variable has its value
abbrev pub Holds : Situation → Fact → Type 0
Holds s f = s.located f.place ≡ true → Has s f.variable f.value

abbrev pub AllHold : Situation → List Fact → Type 0
AllHold s fs = Each (Holds s) fs

-- control is somewhere that the components of a program admit
abbrev pub IsControlled : ControlFacts → Situation → Type 0
IsControlled k s = (m : ℕ → Alternative) × InControl k m s.located

abbrev pub modes_of : System → List PlainMode
modes_of system = flat_map (λ t. t.modes) system.transitions

-- where all the facts hold, they hold behind the mode
abbrev pub Keeps : ControlFacts → List Fact → PlainMode → Type 0
Keeps k fs m = (s : Situation) → IsControlled k s → AllHold s fs → IsTrue (can_go m s) → AllHold (gone m s) fs

-- the facts hold at the beginning, and every mode keeps them
pub record AreInductive (k : ControlFacts) (system : System) (fs : List Fact) : Type 0 where
  pub starts : (s : Situation) → IsControlled k s → IsTrue (truth s system.initial) → AllHold s fs
  pub kept : Each (Keeps k fs) (modes_of system)
