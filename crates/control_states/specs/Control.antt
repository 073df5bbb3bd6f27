-- Where control can be. A program's sequential components are its processes and the children of its cooperations, in
-- text order. A process is always active; a child is active exactly where the component around it is inside the
-- child's cooperation. A control state gives each active component one of its alternatives.
use Rattle.std.specs.Prelude.{◌≡◌, ℕ, ◌<◌, Bool, IsTrue, ◌↔◌, ◌⊎◌, List, [], ◌∷◌, length, slice_get, slice_index_or, Option, Some, None}
use Rattle.control_states.specs.declared.alternative.Alternative.{Alternative}
use Rattle.control_states.specs.declared.alternative.Alternative.TheVariants.{Location, Inside}

-- a sequential component: what it can be at, and for a child the component around it and its cooperation
pub record ComponentFacts : Type 0 where
  pub alternatives : List Alternative
  pub around : Option (ℕ × ℕ)

-- the components in order, and of each location the component whose own it is
pub record ControlFacts : Type 0 where
  pub components : List ComponentFacts
  pub owners : List ℕ

abbrev pub no_component : ComponentFacts
no_component = record { alternatives = []; around = None }

abbrev pub component_at : List ComponentFacts → ℕ → ComponentFacts
component_at components c = slice_index_or components c no_component

-- the active components at m: each process, and each child whose surrounding component is inside its cooperation
pub data Active (components : List ComponentFacts) (m : ℕ → Alternative) : ℕ → Type 0 where
  process : (c : ℕ) → c < length components → (component_at components c).around ≡ None → Active components m c
  child : (c a o : ℕ) → c < length components → (component_at components c).around ≡ Some (a, o) → Active components m a → m a ≡ Inside o → Active components m c

abbrev pub IsOneOf : Alternative → List Alternative → Type 0
IsOneOf a [] = ⊥
IsOneOf a (b ∷ bs) = (a ≡ b) ⊎ IsOneOf a bs

-- a control state gives each active component one of its alternatives
abbrev pub IsControlState : ControlFacts → (ℕ → Alternative) → Type 0
IsControlState k m = (c : ℕ) → Active k.components m c → IsOneOf (m c) (component_at k.components c).alternatives

-- control is at a location where its component is active and at it
abbrev pub IsAt : ControlFacts → (ℕ → Alternative) → ℕ → Type 0
IsAt k m l = (c : ℕ) × (slice_get k.owners l ≡ Some c) × Active k.components m c × (m c ≡ Location l)

-- a control state, and at which locations control is in it
pub record InControl (k : ControlFacts) (m : ℕ → Alternative) (at : ℕ → Bool) : Type 0 where
  pub state : IsControlState k m
  pub located : (l : ℕ) → IsTrue (at l) ↔ IsAt k m l
