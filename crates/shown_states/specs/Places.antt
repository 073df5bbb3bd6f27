-- What a component is at behind a change, of a list of what components are at before.
use Rattle.std.specs.Prelude.{ℕ, Bool, false, ◌==◌, if◌then◌else◌, List, [], ◌∷◌, slice_get, Option, Some, None, option_and_then}
use Rattle.st_form.specs.Exchange.{Exchange, is_listed}
use Rattle.st_form.specs.declared.conditions.Part.TheVariants.{Whole, Entry, Exit}
use Rattle.st_form.specs.declared.conditions.TransName.{TransName}
use Rattle.st_form.specs.declared.conditions.TransName.TheVariants.{Idle, Step}
use Rattle.control_states.specs.declared.alternative.Alternative.{Alternative}
use Rattle.control_states.specs.declared.alternative.Alternative.TheVariants.{Location, Inside}

-- what a component is listed at
abbrev pub place_of : ℕ → List (ℕ × Alternative) → Option Alternative
place_of c [] = None
place_of c (p ∷ ps) = if p.0 == c then Some p.1 else place_of c ps

-- the first of these locations whose owner the component is
abbrev pub is_owner : ℕ → Option ℕ → Bool
is_owner c None = false
is_owner c (Some d) = d == c

abbrev pub entered : List ℕ → ℕ → List ℕ → Option ℕ
entered owners c [] = None
entered owners c (l ∷ ls) = if is_owner c (slice_get owners l) then Some l else entered owners c ls

-- what who leaves a location and enters none is at: inside the cooperation that it enters
abbrev pub inside_by : TransName → Option Alternative
inside_by Idle = None
inside_by (Step o Whole) = None
inside_by (Step o Entry) = Some (Inside o)
inside_by (Step o Exit) = None

abbrev pub stayed : List ℕ → TransName → Alternative → Option Alternative
stayed leaves name (Location l) = if is_listed l leaves then inside_by name else Some (Location l)
stayed leaves name (Inside o) = Some (Inside o)

abbrev pub place_by : Option ℕ → Option Alternative → Option Alternative
place_by (Some l) old = Some (Location l)
place_by None old = old

abbrev pub place_behind : List ℕ → List (ℕ × Alternative) → Exchange → TransName → ℕ → Option Alternative
place_behind owners control x name c = place_by (entered owners c x.enters) (option_and_then (stayed x.leaves name) (place_of c control))
