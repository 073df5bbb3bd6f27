-- Flags of statements: what isn't marked has no name in the row.
use Rattle.std.proofs.Common.{◌≡◌, ℕ, ◌+◌, ◌<◌, Bool, false, List, length, drop, get_or, Some, ap, ◌∙◌, sym}
use Rattle.std.specs.Prelude.{◌||◌, slice_get}
use Rattle.std.proofs.lemmas.List.{drop_more}
use Rattle.st_form.specs.declared.conditions.Part.{Part}
use Rattle.st_form.specs.declared.conditions.TransName.{TransName}
use Rattle.st_form.specs.declared.conditions.TransName.TheVariants.{Step}
use Rattle.spl_semantics.specs.Names.{same_name}
use Rattle.trace_player.specs.Playing.{is_among}

-- what isn't marked has no name in front of a place
abbrev pub MarksTo : List TransName → ℕ → List Bool → Type 0
MarksTo row i marks = (occ : ℕ) → slice_get marks occ ≡ Some false → (part : Part) → is_among (Step occ part) (drop i row) ≡ is_among (Step occ part) row

-- one name more is marked
pub marks-next : (row : List TransName) (i : ℕ) (d : TransName) → i < length row → (old new : List Bool)
    → ((occ : ℕ) → slice_get new occ ≡ Some false → (slice_get old occ ≡ Some false) × ((part : Part) → same_name (get_or row i d) (Step occ part) ≡ false)) → MarksTo row i old → MarksTo row (i + 1) new
marks-next row i d lt old new marked h occ clear part =
    let m = marked occ clear in
    let rest = is_among (Step occ part) (drop (i + 1) row) in
    sym (ap (is_among (Step occ part)) (drop_more row i d lt) ∙ ap (λ b. b || rest) (m.1 part)) ∙ h occ m.0 part
