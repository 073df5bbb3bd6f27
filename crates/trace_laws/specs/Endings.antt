-- Where a schedule stops whose moves aren't all made.
use Rattle.std.specs.Prelude.{◌≡◌, ℕ, suc, true, List, ◌∷◌, slice_get, Some}
use Rattle.st_form.specs.declared.conditions.TransName.{TransName}
use Rattle.st_program.specs.Tree.{Processes}
use Rattle.spl_semantics.specs.Limits.{wide_rests}
use Rattle.spl_semantics.specs.Runs.{State, Leads}
use Rattle.trace_laws.specs.Schedules.{IsNarrow}

-- the first so many moves lead from a state to another one, and before each nothing is too large
pub data Reaches (p : Processes) : State → List TransName → ℕ → State → Type 0 where
  stays : {s : State} {names : List TransName} → Reaches p s names 0 s
  moves : {s t u : State} {name : TransName} {names : List TransName} {k : ℕ} → IsNarrow p s → Leads p s name t → Reaches p t names k u → Reaches p s (name ∷ names) (suc k) u

-- behind the first k moves a number is too large
pub record IsWideBehind (p : Processes) (s : State) (names : List TransName) (k : ℕ) : Type 0 where
  pub state : State
  pub reaches : Reaches p s names k state
  pub wide : wide_rests state.left p state.store ≡ true

-- behind the first k moves nothing is too large, and no step has the next move's name
pub record IsStuckBehind (p : Processes) (s : State) (names : List TransName) (k : ℕ) : Type 0 where
  pub state : State
  pub reaches : Reaches p s names k state
  pub narrow : IsNarrow p state
  pub name : TransName
  pub is_next : slice_get names k ≡ Some name
  pub off : (t : State) → Leads p state name t → ⊥
