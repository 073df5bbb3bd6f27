-- What a change makes of a formula.
use Rattle.std.specs.Prelude.{ℕ, ◌+◌, ◌≡◌, Bool, true, false, not, ◌&&◌, ◌||◌, ◌==◌, List, [], ◌∷◌, Option, Some, option_and_then, if◌then◌else◌}
use Rattle.std.specs.Option.{option_map}
use Rattle.std.specs.List.{list_any}
use Rattle.st_linear.specs.Linear.{Linear, replaced, changed}
use Rattle.st_form.specs.Formula.{Formula, Formulas, truth_value, row, equal, bool_var, at, negation, every, some, none, more, Situation, truth, atoms}

-- what is put in the place of variables, and which locations are left and entered
pub record Exchange : Type 0 where
  pub numbers : List (ℕ × Linear)
  pub truths : List (ℕ × Formula)
  pub leaves : List ℕ
  pub enters : List ℕ

-- the formula that is listed for a truth variable, or the variable
abbrev pub truth_for : ℕ → List (ℕ × Formula) → Formula
truth_for v [] = bool_var v
truth_for v (p ∷ ps) = if p.0 == v then p.1 else truth_for v ps

abbrev pub is_listed : ℕ → List ℕ → Bool
is_listed l ls = list_any (λ m. m == l) ls

abbrev pub location_after : ℕ → Exchange → Formula
location_after l x =
    if is_listed l x.enters then truth_value true
    else (if is_listed l x.leaves then truth_value false else at l)

abbrev mutual
  -- the formula with its variables replaced and its locations moved, if each number is small
  pub exchanged : Exchange → Formula → Option Formula
  exchanged x (truth_value b) = Some (truth_value b)
  exchanged x (row f) = option_map row (replaced x.numbers f)
  exchanged x (equal f) = option_map equal (replaced x.numbers f)
  exchanged x (bool_var v) = Some (truth_for v x.truths)
  exchanged x (at l) = Some (location_after l x)
  exchanged x (negation f) = option_map negation (exchanged x f)
  exchanged x (every fs) = option_map every (all_exchanged x fs)
  exchanged x (some fs) = option_map some (all_exchanged x fs)

  pub all_exchanged : Exchange → Formulas → Option Formulas
  all_exchanged x none = Some none
  all_exchanged x (more f fs) = option_and_then (λ g. option_map (more g) (all_exchanged x fs)) (exchanged x f)

-- the situation in which a formula has the truth that the exchanged one has
abbrev pub before : Situation → Exchange → Situation
before s x = record {
  numbers = changed s.numbers x.numbers;
  truths = λ v. truth s (truth_for v x.truths);
  located = λ l. is_listed l x.enters || (not (is_listed l x.leaves) && s.located l);
}

abbrev mutual
  -- how many atoms the formula has once it is put before the change
  pub atoms_behind : Exchange → Formula → ℕ
  atoms_behind x (truth_value b) = 0
  atoms_behind x (row f) = 1
  atoms_behind x (equal f) = 1
  atoms_behind x (bool_var v) = atoms (truth_for v x.truths)
  atoms_behind x (at l) = atoms (location_after l x)
  atoms_behind x (negation f) = atoms_behind x f
  atoms_behind x (every fs) = all_behind x fs
  atoms_behind x (some fs) = all_behind x fs

  pub all_behind : Exchange → Formulas → ℕ
  all_behind x none = 0
  all_behind x (more f fs) = atoms_behind x f + all_behind x fs

-- atoms are counted without the exchanged formula
abbrev pub CountsBehind : Type 0
CountsBehind = (x : Exchange) (f g : Formula) → exchanged x f ≡ Some g → atoms g ≡ atoms_behind x f
