-- What decisions of some components say of being at a location. A location is decided where its own component is
-- decided, or where a component around that one is decided to be elsewhere than inside the cooperation that leads to
-- it; a decided location holds exactly where its own component is decided to it.
use Rattle.std.specs.Prelude.{◌≡◌, ℕ, zero, suc, Bool, false, not, ◌||◌, ◌==◌, if◌then◌else◌, List, length, slice_get, slice_index_or, Option, Some, None, option_and_then}
use Rattle.control_states.specs.declared.alternative.Alternative.{Alternative}
use Rattle.control_states.specs.declared.alternative.Alternative.TheVariants.{Location, Inside}
use Rattle.control_states.specs.Control.{ComponentFacts, ControlFacts, component_at, Active, InControl}

abbrev pub is_inside : ℕ → Alternative → Bool
is_inside o (Location l) = false
is_inside o (Inside p) = p == o

abbrev pub is_location : ℕ → Alternative → Bool
is_location l (Location m) = m == l
is_location l (Inside p) = false

-- a component is decided, and not to be inside this cooperation
abbrev pub elsewhere : ℕ → Option Alternative → Bool
elsewhere o None = false
elsewhere o (Some a) = not (is_inside o a)

abbrev pub cut_by : List (Option Alternative) → (ℕ → Bool) → Option (ℕ × ℕ) → Bool
cut_by cases further None = false
cut_by cases further (Some w) = elsewhere w.1 (slice_index_or cases w.0 None) || further w.0

-- one of the n nearest components around c is decided to another alternative than the inside that leads to c
abbrev pub cut_off : List ComponentFacts → List (Option Alternative) → ℕ → ℕ → Bool
cut_off parts cases zero c = false
cut_off parts cases (suc n) c = cut_by cases (cut_off parts cases n) (component_at parts c).around

-- what is decided of a location by its component's decision, or else by those around
abbrev pub place_by : ℕ → Bool → Option Alternative → Option Bool
place_by l cut (Some a) = Some (is_location l a)
place_by l cut None = if cut then Some false else None

abbrev pub place_in : List ComponentFacts → List (Option Alternative) → ℕ → ℕ → Option Bool
place_in parts cases l c = place_by l (cut_off parts cases (length parts) c) (slice_index_or cases c None)

-- the decided truth value of being at a location
abbrev pub place : ControlFacts → List (Option Alternative) → ℕ → Option Bool
place k cases l = option_and_then (place_in k.components cases l) (slice_get k.owners l)

-- a control state has the decisions: each decided component is active and so decided
abbrev pub Follows : List ComponentFacts → (ℕ → Alternative) → List (Option Alternative) → Type 0
Follows parts m cases = (c : ℕ) (a : Alternative) → slice_index_or cases c None ≡ Some a → Active parts m c × (m c ≡ a)

-- what is decided of locations is right in each control state that has the decisions
abbrev pub AreRight : ControlFacts → List (Option Alternative) → List (Option Bool) → Type 0
AreRight k cases places =
    (m : ℕ → Alternative) (at : ℕ → Bool) → InControl k m at → Follows k.components m cases
    → (l : ℕ) (b : Bool) → slice_index_or places l None ≡ Some b → at l ≡ b
