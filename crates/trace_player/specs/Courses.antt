-- The enabled names of a run as flags.
use Rattle.std.specs.Prelude.{◌≡◌, ℕ, Bool, false, List, map, slice_get, Some}
use Rattle.std.specs.declared.vec.Vec.{Vec}
use Rattle.std.specs.declared.alloc.Global.{Global}
use Rattle.observations.specs.declared.Fairness.{Fairness}
use Rattle.st_form.specs.declared.conditions.Part.{Part}
use Rattle.st_form.specs.declared.conditions.TransName.{TransName}
use Rattle.st_form.specs.declared.conditions.TransName.TheVariants.{Step}
use Rattle.trace_player.specs.Playing.{is_among}

-- for each name a flag, whether it is in the row
abbrev pub as_flags : List (TransName × Fairness) → Vec TransName Global → List Bool
as_flags names row = map (λ n. is_among n.0 row.items) names

-- no name in the row is one of a statement whose flag isn't set
abbrev pub Marks : List TransName → List Bool → Type 0
Marks row marks = (occ : ℕ) → slice_get marks occ ≡ Some false → (part : Part) → is_among (Step occ part) row ≡ false

abbrev pub are_rows : List (TransName × Fairness) → List (Vec TransName Global) → List (List Bool)
are_rows names enabled = map (as_flags names) enabled
