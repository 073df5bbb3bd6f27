-- All rows together, and what they are eliminated to.
use Rattle.std.proofs.Common.{◌≡◌, ℕ, zero, suc, ◌+◌, ◌<◌, ◌≤◌, Some, List, [], ◌∷◌, ◌++◌, length, map, take, refl, ap, ◌∙◌, sym, subst, arith}
use Rattle.st_linear.specs.Linear.{Linear}
use Rattle.null_laws.specs.Reduction.{Entries}
use Rattle.null_laws.specs.Vectors.{basis}
use Rattle.null_laws.specs.Bases.{AllMeet, IsRow}
use Rattle.transition_system.specs.Systems.{System}
use Rattle.transition_system.specs.Bounds.{IsSystem}
use Rattle.equation_laws.specs.Space.{start_forms, start_places, modes_of, variables_of}
use Rattle.equation_laws.specs.Rows.{mode_rows, first_rows, rows_of, width_of, basis_of}
use Rattle.equation_laws.specs.Equations.{PlainEquation, AreFound, equation_of, with_variables, found_in}
use Rattle.equation_laws.proofs.Within.{system-within, rows-are}
use Rattle.equation_laws.proofs.Founds.{are-found}
use Rattle.linear_invariants.proofs.Appends.{modes-append}

pub take-length : {X : Type 0} (k : ℕ) (xs : List X) → k ≤ length xs → k ≡ length (take k xs)
take-length zero xs h = refl
take-length (suc k) [] h = absurd (omega arith)
take-length (suc k) (x ∷ xs) h = ap suc (take-length k xs (omega arith))

pub take-whole : {X : Type 0} (k : ℕ) (xs : List X) → length xs ≤ k → xs ≡ take k xs
take-whole zero [] h = refl
take-whole zero (x ∷ xs) h = absurd (omega arith)
take-whole (suc k) [] h = refl
take-whole (suc k) (x ∷ xs) h = ap (λ xs. x ∷ xs) (take-whole k xs (omega arith))

pub take-few : {X : Type 0} (k : ℕ) (xs : List X) → length (take k xs) ≤ k
take-few zero xs = omega arith
take-few (suc k) [] = omega arith
take-few (suc k) (x ∷ xs) = let l = take-few k xs in omega arith

pub rows-whole : (system : System) → mode_rows (variables_of system) system.locations (modes_of system) [] ++ first_rows (variables_of system) system.locations (start_places system) (start_forms system) ≡ rows_of system
rows-whole system = modes-append (variables_of system) system.locations (modes_of system) [] (first_rows (variables_of system) system.locations (start_places system) (start_forms system))

-- what the code has in hand before the elimination
module _ (system : System) (is_system : IsSystem system) (n : ℕ) (forms : List Linear) (rows : List Entries) (n_is : n ≡ variables_of system) (forms_are : forms ≡ start_forms system) (rows_are : rows ≡ rows_of system) where
  abbrev eliminated : ℕ → List Linear → List Entries → Type 0
  eliminated n forms rows = AllMeet (IsRow (n + system.locations + 1 + length forms)) rows

  pub rows-within : AllMeet (IsRow (n + system.locations + 1 + length forms)) rows
  rows-within =
      subst (λ (m : ℕ). eliminated m forms rows) (sym n_is)
      (subst (λ fs. eliminated (variables_of system) fs rows) (sym forms_are)
      (subst (eliminated (variables_of system) (start_forms system)) (sym rows_are) (rows-are system (system-within system is_system))))

  pub basis-made : (bs : List Entries) → basis (n + system.locations + 1 + length forms) (n + system.locations + 1) rows ≡ Some bs → basis_of system ≡ Some bs
  basis-made bs e =
      ap (λ (m : ℕ). basis (m + system.locations + 1 + length (start_forms system)) (m + system.locations + 1) (rows_of system)) (sym n_is)
      ∙ ap (λ fs. basis (n + system.locations + 1 + length fs) (n + system.locations + 1) (rows_of system)) (sym forms_are)
      ∙ ap (basis (n + system.locations + 1 + length forms) (n + system.locations + 1)) (sym rows_are)
      ∙ e

  pub spans : (bs : List Entries) (es : List PlainEquation) → basis (n + system.locations + 1 + length forms) (n + system.locations + 1) rows ≡ Some bs → es ≡ map (equation_of n system.locations) (with_variables n bs) → AreFound system es
  spans bs es e h =
      let same : found_in system bs ≡ es = ap (λ (m : ℕ). map (equation_of m system.locations) (with_variables m bs)) (sym n_is) ∙ sym h in
      subst (AreFound system) same (are-found system bs is_system (basis-made bs e))
