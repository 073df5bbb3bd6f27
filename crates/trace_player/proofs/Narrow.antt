-- With numbers as small as texts write them, no value of a test is too large.
--
-- The variables of a form rise, and there are at most 64. Before the entry of variable v there are at most v others, and each
-- product has at most size 2^62.
use Rattle.std.proofs.Common.{◌≡◌, ℕ, zero, suc, ◌+◌, ◌*◌, ◌^◌, ◌<◌, ◌≤◌, Bool, false, List, [], ◌∷◌, length, ℤ, ◌+ℤ◌, ◌*ℤ◌, Some, refl, ◌∙◌, arith}
use Rattle.std.specs.Prelude.{⊤, unsigned_abs, All}
use Rattle.std.proofs.lemmas.Bool.Decides.{nat_tests}
use Rattle.std.proofs.lemmas.Int.{unsigned_abs-mul}
use Rattle.std.proofs.Math.Nat.{mul-le-mul_left, mul-le-mul_right}
use Rattle.st_linear.specs.Linear.{Linear, is_wide, AreEntries, AllAbove}
use Rattle.st_form.specs.Formula.{Formula, Formulas, truth_value, row, equal, bool_var, at, negation, every, some, none, more}
use Rattle.st_form.specs.declared.variables.Variable.{Variable}
use Rattle.st_program.specs.Types.{type_of, EntriesFit, LinearFits, FormulaFits, FormulasFit}
use Rattle.st_program.specs.declared.residuals.Datum.{Datum}
use Rattle.st_program.specs.declared.residuals.Datum.TheVariants.{Number, Truth}
use Rattle.spl_semantics.specs.Data.{store_of}
use Rattle.spl_semantics.specs.Limits.{wide_on, wide_form, wide_formula, wide_formulas}
use Rattle.spl_semantics.specs.Stores.{Store}
use Rattle.spl_semantics.proofs.Exits.{or_none}
use Rattle.schedule_reader.specs.Values.{IsWritten}
use Rattle.basic_laws.proofs.Integers.{sum-size}

product-size : (c x : ℤ) → unsigned_abs c < 2 ^ 32 → unsigned_abs x ≤ 2 ^ 30 → unsigned_abs (c *ℤ x) ≤ 2 ^ 62
product-size c x h k =
    let a : unsigned_abs c ≤ 2 ^ 32 = omega (arith, h) in
    let p = mul-le-mul_left (unsigned_abs c) k in
    let q = mul-le-mul_right (2 ^ 30) a in
    omega (arith, p, q, unsigned_abs-mul c x)

not-wide : (z : ℤ) → unsigned_abs z < 2 ^ 126 → is_wide z ≡ false
unfolding is_wide
not-wide z h = grind (arith, nat_tests)

index-within : (vs : List Variable) (v : ℕ) (b : Bool) → type_of vs v ≡ Some b → v < length vs
index-within [] v b e = cc
index-within (x ∷ xs) zero b e = omega arith
index-within (x ∷ xs) (suc v) b e = let le = index-within xs v b e in omega (arith, le)

-- the first variable is at least b
abbrev IsFrom : ℕ → List (ℕ × ℤ) → Type 0
IsFrom b [] = ⊤
IsFrom b (e ∷ es) = b ≤ e.0

from-zero : (es : List (ℕ × ℤ)) → IsFrom 0 es
from-zero [] = tt
from-zero (e ∷ es) = omega arith

from-above : (v : ℕ) (es : List (ℕ × ℤ)) → AllAbove v es → IsFrom (v + 1) es
from-above v [] h = tt
from-above v (e ∷ es) h = let le = h.0 in omega (arith, le)

module _ (vs : List Variable) (few : length vs ≤ 64) (s : Store) (small : (v : ℕ) → unsigned_abs (s.numbers v) ≤ 2 ^ 30) where
  narrow-on : (b : ℕ) (es : List (ℕ × ℤ)) (z : ℤ) → IsFrom b es → AreEntries es → EntriesFit vs (2 ^ 32) es → unsigned_abs z ≤ 2 ^ 32 + 2 ^ 62 * b → wide_on s.numbers es z ≡ false
  narrow-on b [] z from rising fit le = refl
  narrow-on b (e ∷ es) z from rising fit le =
      let v = index-within vs e.0 false fit.0 in
      let p = product-size e.1 (s.numbers e.0) fit.1 (small e.0) in
      let q = sum-size z (e.1 *ℤ s.numbers e.0) (2 ^ 32 + 2 ^ 62 * b) (2 ^ 62) le p in
      let r : unsigned_abs (z +ℤ e.1 *ℤ s.numbers e.0) ≤ 2 ^ 32 + 2 ^ 62 * (e.0 + 1) = omega (arith, q, from) in
      or_none _ _ (not-wide _ (omega (arith, p)))
      ∙ or_none _ _ (not-wide _ (omega (arith, r, v, few)))
      ∙ narrow-on (e.0 + 1) es (z +ℤ e.1 *ℤ s.numbers e.0) (from-above e.0 es rising.0) rising.2 fit.2 r

  narrow-form : (f : Linear) → LinearFits vs (2 ^ 32) f → wide_form f s ≡ false
  narrow-form f h = narrow-on 0 f.entries f.constant (from-zero f.entries) h.rising h.entries (let le = h.constant in omega (arith, le))

  mutual
    pub narrow-formula : (f : Formula) → FormulaFits vs (2 ^ 32) f → wide_formula f s ≡ false
    narrow-formula (truth_value b) h = refl
    narrow-formula (row f) h = narrow-form f h
    narrow-formula (equal f) h = narrow-form f h
    narrow-formula (bool_var v) h = refl
    narrow-formula (at l) h = refl
    narrow-formula (negation f) h = narrow-formula f h
    narrow-formula (every fs) h = narrow-formulas fs h
    narrow-formula (some fs) h = narrow-formulas fs h

    narrow-formulas : (fs : Formulas) → FormulasFit vs (2 ^ 32) fs → wide_formulas fs s ≡ false
    narrow-formulas none h = refl
    narrow-formulas (more f fs) h = or_none _ _ (narrow-formula f h.0) ∙ narrow-formulas fs h.1

pub small-numbers : (ds : List Datum) → All IsWritten ds → (v : ℕ) → unsigned_abs ((store_of ds).numbers v) ≤ 2 ^ 30
small-numbers [] h v = omega arith
small-numbers (Number z ∷ ds) h zero = h 0 (Number z) (omega arith)
small-numbers (Truth b ∷ ds) h zero = omega arith
small-numbers (d ∷ ds) h (suc v) = small-numbers ds (λ k x le. h (suc k) x (omega (arith, le))) v
