-- What a transition system keeps: numbers in range, variables used by their types, and entries within bounds.
use Rattle.std.specs.Prelude.{◌≡◌, ℕ, suc, ◌+◌, ◌^◌, ◌<◌, ◌≤◌, Bool, true, false, List, [], ◌∷◌, length, slice_get, unsigned_abs, ℤ, Some, ⊤, All}
use Rattle.st_linear.specs.Linear.{Linear, AreEntries}
use Rattle.st_form.specs.Formula.{Formula, Formulas, truth_value, row, equal, bool_var, at, negation, every, some, none, more}
use Rattle.st_form.specs.Exchange.{Exchange}
use Rattle.transition_system.specs.Systems.{PlainMode, PlainTransition, System, HasFewModes}

-- each entry is of an integer variable and below the bound in size
abbrev pub EntriesWithin : List Bool → ℕ → List (ℕ × ℤ) → Type 0
EntriesWithin truths bound [] = ⊤
EntriesWithin truths bound (e ∷ es) = (slice_get truths e.0 ≡ Some false) × (unsigned_abs e.1 < bound) × EntriesWithin truths bound es

-- variables rise in it, as in every form
pub record LinearWithin (truths : List Bool) (bound : ℕ) (f : Linear) : Type 0 where
  pub rising : AreEntries f.entries
  pub constant : unsigned_abs f.constant < bound
  pub entries : EntriesWithin truths bound f.entries

abbrev mutual
  pub FormulaWithin : List Bool → ℕ → ℕ → Formula → Type 0
  FormulaWithin truths locations bound (truth_value b) = ⊤
  FormulaWithin truths locations bound (row f) = LinearWithin truths bound f
  FormulaWithin truths locations bound (equal f) = LinearWithin truths bound f
  FormulaWithin truths locations bound (bool_var v) = slice_get truths v ≡ Some true
  FormulaWithin truths locations bound (at l) = l < locations
  FormulaWithin truths locations bound (negation f) = FormulaWithin truths locations bound f
  FormulaWithin truths locations bound (every fs) = FormulasWithin truths locations bound fs
  FormulaWithin truths locations bound (some fs) = FormulasWithin truths locations bound fs

  pub FormulasWithin : List Bool → ℕ → ℕ → Formulas → Type 0
  FormulasWithin truths locations bound none = ⊤
  FormulasWithin truths locations bound (more f fs) = FormulaWithin truths locations bound f × FormulasWithin truths locations bound fs

-- the variables of a list of pairs rise
abbrev pub RisesFrom : {X : Type 0} → ℕ → List (ℕ × X) → Type 0
RisesFrom low [] = ⊤
RisesFrom low (p ∷ ps) = (low ≤ p.0) × RisesFrom (suc p.0) ps

pub record ExchangeWithin (truths : List Bool) (locations : ℕ) (x : Exchange) : Type 0 where
  pub numbers_rise : RisesFrom 0 x.numbers
  pub truths_rise : RisesFrom 0 x.truths
  pub numbers : All (λ p. (slice_get truths p.0 ≡ Some false) × LinearWithin truths (2 ^ 30 + 1) p.1) x.numbers
  pub truth_values : All (λ p. (slice_get truths p.0 ≡ Some true) × FormulaWithin truths locations (2 ^ 69) p.1) x.truths
  pub leaves : All (λ l. l < locations) x.leaves
  pub enters : All (λ l. l < locations) x.enters

pub record ModeWithin (truths : List Bool) (locations : ℕ) (m : PlainMode) : Type 0 where
  pub at : All (λ l. l < locations) m.at
  pub guard : FormulaWithin truths locations (2 ^ 69) m.guard
  pub change : ExchangeWithin truths locations m.change

-- no two transitions have one name
abbrev pub AreDistinct : List PlainTransition → Type 0
AreDistinct ts = (i j : ℕ) (x y : PlainTransition) → slice_get ts i ≡ Some x → slice_get ts j ≡ Some y → x.name ≡ y.name → i ≡ j

pub record IsSystem (system : System) : Type 0 where
  pub distinct : AreDistinct system.transitions
  pub few : length system.transitions < 2 ^ 32
  pub few_modes : HasFewModes system
  pub few_variables : length system.truths ≤ 64
  pub initial : FormulaWithin system.truths system.locations (2 ^ 32) system.initial
  pub modes : All (λ t. All (ModeWithin system.truths system.locations) t.modes) system.transitions

-- a formula and a change over the same at most 64 variables, each used by its type, and the same locations: no number of
-- the formula reaches 2^33, and none that the change puts in the place of a variable passes 2^30
pub record Suits (f : Formula) (x : Exchange) : Type 0 where
  pub truths : List Bool
  pub locations : ℕ
  pub few : length truths ≤ 64
  pub formula : FormulaWithin truths locations (2 ^ 33) f
  pub change : ExchangeWithin truths locations x
