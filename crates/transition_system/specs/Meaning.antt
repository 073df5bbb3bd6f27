-- What modes, steps and runs of a transition system are (Manna and Pnueli, *Temporal Verification of Reactive Systems:
-- Safety*, section 0.1; a run is a finite beginning of theirs).
--
-- A state is a situation: the value of each variable, and at which locations control is.
use Rattle.std.specs.Prelude.{◌≡◌, ◌≢◌, ℕ, Bool, ◌&&◌, IsTrue, All, List, [], ◌∷◌, ◌++◌, map, slice_get, Some}
use Rattle.std.specs.List.{list_any, list_all}
use Rattle.std.specs.Option.{option_map}
use Rattle.st_form.specs.Formula.{Formula, Situation, truth, at, every, some, formulas}
use Rattle.st_form.specs.Exchange.{before}
use Rattle.st_form.specs.declared.conditions.TransName.{TransName}
use Rattle.observations.specs.Observation.{Observation}
use Rattle.observations.specs.Extension.{IsObserved}
use Rattle.transition_system.specs.Systems.{PlainMode, PlainTransition, System}

-- the mode can be taken
abbrev pub can_go : PlainMode → Situation → Bool
can_go m s = list_all (λ l. s.located l) m.at && truth s m.guard

-- the state behind the mode: its change replaces variables at once, and moves control
abbrev pub gone : PlainMode → Situation → Situation
gone m s = before s m.change

abbrev pub is_enabled : PlainTransition → Situation → Bool
is_enabled t s = list_any (λ m. can_go m s) t.modes

abbrev pub enabled_in : System → Situation → List Bool
enabled_in system s = map (λ t. is_enabled t s) system.transitions

-- a step of the transition with this number
pub record Goes (system : System) (s : Situation) (number : ℕ) (t : Situation) : Type 0 where
  pub transition : PlainTransition
  pub numbered : slice_get system.transitions number ≡ Some transition
  pub mode : PlainMode
  pub place : ℕ
  pub placed : slice_get transition.modes place ≡ Some mode
  pub goes : IsTrue (can_go mode s)
  pub leads : t ≡ gone mode s

-- the observation is that of a run of the system
pub record IsRun (system : System) (o : Observation Situation) : Type 0 where
  pub initial : IsTrue (truth o.first.state system.initial)
  pub observed : IsObserved (map (λ t. t.fairness) system.transitions) (enabled_in system) (Goes system) o

-- what enables a mode, as formulas: control is at each of its locations, and the guard holds
abbrev pub enabling_of : PlainMode → List Formula
enabling_of m = map (λ l. at l) m.at ++ m.guard ∷ []

-- the formula that holds where the transition is enabled
abbrev pub enabled_form : PlainTransition → Formula
enabled_form t = some (formulas (map (λ m. every (formulas (enabling_of m))) t.modes))

-- the transition with this number has the name
abbrev pub IsNamed : System → ℕ → TransName → Type 0
IsNamed system number name = option_map (λ t. t.name) (slice_get system.transitions number) ≡ Some name

-- no transition has the name
abbrev pub HasNoName : System → TransName → Type 0
HasNoName system name = All (λ t. t.name ≢ name) system.transitions
