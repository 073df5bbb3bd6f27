-- What becomes of a row, by its entries, its constant and its kind.
use Rattle.std.proofs.Common.{◌≡◌, ◌≢◌, ℕ, zero, suc, Bool, true, false, List, [], ◌∷◌, length, refl, arith, ℤ, pos, negsuc}
use lib.Signed.{lt_z}
use Rattle.std.proofs.lemmas.Bool.Decides.{nat_tests}
use Rattle.elimination_laws.specs.Mixing.{Tracked}
use Rattle.elimination_laws.specs.Stages.{stays, goes, judged, turned}
use Rattle.lean_elimination.specs.Placings.{Clashing}

-- a row as the definition's line
abbrev pub line : List (ℕ × ℤ) → List (ℕ × ℤ) → ℤ → Bool → Tracked
line ps es c equal = record { form = record { constant = c; entries = es }; equal = equal; picks = ps }

pub fate-stays : (ps es : List (ℕ × ℤ)) (c : ℤ) (equal : Bool) → length es ≢ 0 → judged (line ps es c equal) ≡ stays
fate-stays ps [] c equal h = absurd (h refl)
fate-stays ps (e ∷ es) c equal h = refl

pub fate-below : (ps es : List (ℕ × ℤ)) (c : ℤ) (equal : Bool) → length es ≡ 0 → lt_z c (pos 0) ≡ true → Clashing (line ps es c equal)
fate-below ps [] (pos n) equal h k = absurd (grind (arith, nat_tests))
fate-below ps [] (negsuc n) equal h k = record { multiples = ps; found = refl }
fate-below ps (e ∷ es) c equal h k = absurd (omega (arith, h))

pub fate-none : (ps es : List (ℕ × ℤ)) (c : ℤ) (equal : Bool) → length es ≡ 0 → c ≡ pos 0 → judged (line ps es c equal) ≡ goes
fate-none ps [] c equal h k = rw k refl
fate-none ps (e ∷ es) c equal h k = absurd (omega (arith, h))

pub fate-above : (ps es : List (ℕ × ℤ)) (c : ℤ) (equal : Bool) → length es ≡ 0 → lt_z c (pos 0) ≡ false → c ≢ pos 0 → equal ≡ true → Clashing (line ps es c equal)
fate-above ps [] (pos zero) equal h k l e = absurd (l refl)
fate-above ps [] (pos (suc n)) equal h k l e = record { multiples = turned ps; found = rw e refl }
fate-above ps [] (negsuc n) equal h k l e = absurd (cc)
fate-above ps (e ∷ es) c equal h k l f = absurd (omega (arith, h))

pub fate-holds : (ps es : List (ℕ × ℤ)) (c : ℤ) (equal : Bool) → length es ≡ 0 → lt_z c (pos 0) ≡ false → equal ≡ false → judged (line ps es c equal) ≡ goes
fate-holds ps [] (pos zero) equal h k e = refl
fate-holds ps [] (pos (suc n)) equal h k e = rw e refl
fate-holds ps [] (negsuc n) equal h k e = absurd (cc)
fate-holds ps (e ∷ es) c equal h k f = absurd (omega (arith, h))
