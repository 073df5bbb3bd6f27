-- What a change makes of a state that is shown: what each variable is given, and when a number is too large for it.
use Rattle.std.specs.Prelude.{◌≡◌, ℕ, ◌<◌, Bool, true, false, ◌==◌, if◌then◌else◌, All, List, [], ◌∷◌, length, slice_get, Option, Some, None}
use Rattle.st_linear.specs.Linear.{Linear, value, form_for}
use Rattle.st_form.specs.Formula.{Formula, Situation, truth}
use Rattle.st_form.specs.Exchange.{Exchange}
use Rattle.st_program.specs.declared.residuals.Datum.{Datum}
use Rattle.st_program.specs.declared.residuals.Datum.TheVariants.{Number, Truth}
use Rattle.spl_semantics.specs.Stores.{Store}
use Rattle.spl_semantics.specs.Data.{store_of}
use Rattle.spl_semantics.specs.Limits.{wide_form, wide_formula}

-- whole numbers are given to variables that have one, and truth values to those that have one
pub record GivesByType (types : List Bool) (x : Exchange) : Type 0 where
  pub numbers : All (λ p. slice_get types p.0 ≡ Some false) x.numbers
  pub truths : All (λ p. slice_get types p.0 ≡ Some true) x.truths

-- the formula that is listed first for a variable
abbrev pub formula_for : ℕ → List (ℕ × Formula) → Option Formula
formula_for v [] = None
formula_for v (p ∷ ps) = if p.0 == v then Some p.1 else formula_for v ps

-- what a sum or else a formula gives a variable, or what it was
abbrev pub datum_given : Option Linear → Option Formula → Situation → Datum → Datum
datum_given (Some f) g s d = Number (value s.numbers f)
datum_given None (Some g) s d = Truth (truth s g)
datum_given None None s d = d

abbrev pub datum_behind : Exchange → Situation → ℕ → Datum → Datum
datum_behind x s v d = datum_given (form_for v x.numbers) (formula_for v x.truths) s d

-- a number on the way to it is too large
abbrev pub wide_given : Option Linear → Option Formula → Store → Bool
wide_given (Some f) g s = wide_form f s
wide_given None (Some g) s = wide_formula g s
wide_given None None s = false

abbrev pub wide_for : Exchange → Store → ℕ → Bool
wide_for x s v = wide_given (form_for v x.numbers) (formula_for v x.truths) s

-- a number is too large on the way to what some variable of the store is given
abbrev pub IsWide : Exchange → List Datum → Type 0
IsWide x ds = (v : ℕ) × (v < length ds) × (wide_for x (store_of ds) v ≡ true)

abbrev pub IsNarrow : Exchange → List Datum → Type 0
IsNarrow x ds = (v : ℕ) → v < length ds → wide_for x (store_of ds) v ≡ false
