-- Contexts by number: what is decided of the components that have others inside.
use Rattle.std.specs.Prelude.{◌≡◌, ℕ, ◌<◌, ◌≤◌, Bool, List, [], length, map, All, slice_get, slice_set, Option, Some, None}
use Rattle.std.specs.declared.vec.Vec.{Vec}
use Rattle.std.specs.declared.alloc.Global.{Global}
use Rattle.control_states.specs.declared.alternative.Alternative.{Alternative}
use Rattle.control_states.specs.Control.{ControlFacts}
use Rattle.sharing_laws.specs.Contexts.{has_inside}

abbrev pub Context : Type 0
Context = List (Option Alternative)

-- contexts in the order of their numbers
abbrev pub ContextTable : Type 0
ContextTable = List (Vec (Option Alternative) Global)

abbrev pub context_in : Option (Vec (Option Alternative) Global) → Context
context_in None = []
context_in (Some v) = v.items

abbrev pub context_at : ContextTable → ℕ → Context
context_at cs n = context_in (slice_get cs n)

-- a number is this context's
abbrev pub IsContext : ContextTable → ℕ → Context → Type 0
IsContext cs n context = (n < length cs) × (context_at cs n ≡ context)

-- these numbers are those of these contexts
pub record AreContexts (cs : ContextTable) (ns : List ℕ) (contexts : List Context) : Type 0 where
  pub there : All (λ n. n < length cs) ns
  pub same : map (context_at cs) ns ≡ contexts

-- contexts keep their numbers
pub record Keeps (old new : ContextTable) : Type 0 where
  pub longer : length old ≤ length new
  pub same : (n : ℕ) → n < length old → context_at new n ≡ context_at old n

-- a context with a component decided
abbrev pub entered : Context → ℕ → Alternative → Context
entered context c a = slice_set context c (Some a)

-- of each component that is there, whether it has others inside
abbrev pub AreInside : ControlFacts → List Bool → Type 0
AreInside k inside = (c : ℕ) (b : Bool) → slice_get inside c ≡ Some b → b ≡ has_inside k c
