-- What is told of a formula by what is known of a state, in Kleene's strong logic of three values: it is true, or false, or isn't told.
use Rattle.std.specs.Prelude.{ℕ, ℤ, Bool, true, false, not, ◌&&◌, if◌then◌else◌, List, [], ◌∷◌, Option, Some, None}
use Rattle.std.specs.Option.{option_map}
use Rattle.st_form.specs.Formula.{Formula, Formulas, truth_value, row, equal, bool_var, at, negation, every, some, none, more, truth}
use Rattle.st_program.specs.declared.residuals.Datum.{Datum}
use Rattle.spl_semantics.specs.Data.{seen_at, store_of}
use Rattle.spl_semantics.specs.Limits.{wide_formula}
use Rattle.agreeing_states.specs.declared.telling.Known.{Known}
use Rattle.agreeing_states.specs.Agreeing.{is_known}

-- both: false where one is, and else told where both are
abbrev pub both : Option Bool → Option Bool → Option Bool
both (Some false) b = Some false
both (Some true) b = b
both None (Some false) = Some false
both None (Some true) = None
both None None = None

-- one of them: true where one is, and else told where both are
abbrev pub either : Option Bool → Option Bool → Option Bool
either (Some true) b = Some true
either (Some false) b = b
either None (Some true) = Some true
either None (Some false) = None
either None None = None

-- all variables of a sum are known
abbrev pub are_known : List Bool → List (ℕ × ℤ) → Bool
are_known flags [] = true
are_known flags (e ∷ es) = is_known flags e.0 && are_known flags es

-- an atom is told where all that it speaks of is known, and no number on the way to it is too large
abbrev pub atom_told : Bool → List Datum → List ℕ → Formula → Option Bool
atom_told known store fronts f = if known && not (wide_formula f (store_of store)) then Some (truth (seen_at store fronts) f) else None

abbrev mutual
  -- of a formula in a state with these values, and with control at these locations
  pub told : Known → List Datum → List ℕ → Formula → Option Bool
  told k store fronts (truth_value b) = Some b
  told k store fronts (row f) = atom_told (are_known k.variables.items f.entries) store fronts (row f)
  told k store fronts (equal f) = atom_told (are_known k.variables.items f.entries) store fronts (equal f)
  told k store fronts (bool_var v) = atom_told (is_known k.variables.items v) store fronts (bool_var v)
  told k store fronts (at l) = atom_told (is_known k.locations.items l) store fronts (at l)
  told k store fronts (negation f) = option_map not (told k store fronts f)
  told k store fronts (every fs) = every_told k store fronts fs
  told k store fronts (some fs) = some_told k store fronts fs

  pub every_told : Known → List Datum → List ℕ → Formulas → Option Bool
  every_told k store fronts none = Some true
  every_told k store fronts (more f fs) = both (told k store fronts f) (every_told k store fronts fs)

  pub some_told : Known → List Datum → List ℕ → Formulas → Option Bool
  some_told k store fronts none = Some false
  some_told k store fronts (more f fs) = either (told k store fronts f) (some_told k store fronts fs)
