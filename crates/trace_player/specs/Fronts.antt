-- End locations by place, and locations by occurrence.
use Rattle.std.specs.Prelude.{◌≡◌, ℕ, zero, suc, List, Option, Some, slice_get, option_to_list}
use Rattle.st_program.specs.Tree.{process, Processes, no_process, beside}
use Rattle.st_program.specs.Spots.{spot}
use Rattle.spl_semantics.specs.Control.{location_at}

-- the end location of the process in the place, or 0 where there is none
abbrev pub end_at : Processes → ℕ → ℕ
end_at no_process k = 0
end_at (beside (process ss end) ps) zero = end
end_at (beside (process ss end) ps) (suc k) = end_at ps k

-- each entry is the location of the statement with that occurrence, or none where there is no such statement
abbrev pub AreLocations : Processes → List (Option ℕ) → Type 0
AreLocations p entries = (occ : ℕ) (entry : Option ℕ) → slice_get entries occ ≡ Some entry → option_to_list entry ≡ location_at (spot p occ)
