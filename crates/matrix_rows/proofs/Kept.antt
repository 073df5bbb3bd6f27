-- Entries that a row may have make a form.
use Rattle.std.proofs.Common.{◌≡◌, ◌≢◌, ◌^◌, ℕ, ◌+◌, ◌<◌, ◌≤◌, Bool, true, false, ◌&&◌, Option, Some, None, List, [], ◌∷◌, refl, arith, ℤ, pos, rules}
use Rattle.std.specs.Prelude.{IsTrue, nat_lt}
use Rattle.std.proofs.lemmas.Bool.Decides.{nat_tests}
use Rattle.st_linear.specs.Linear.{AreEntries, AllAbove, is_zero, is_small, are_small, rise_from, of_entries, is_within}
use Rattle.null_laws.proofs.Rows.{nonzero-is}
use Rattle.matrix_rows.specs.Rows.{IsKept}

both : (a b : Bool) → (a && b) ≡ true → (a ≡ true) × (b ≡ true)
both true b h = (refl, h)
both false b h = absurd (cc)

-- the first variable is from low on
abbrev BeginsFrom : ℕ → List (ℕ × ℤ) → Type 0
BeginsFrom low [] = Unit {0}
BeginsFrom low (e ∷ es) = low ≤ e.0

begins-above : (v : ℕ) (es : List (ℕ × ℤ)) → AllAbove v es → BeginsFrom (v + 1) es
begins-above v [] h = tt
begins-above v (e ∷ es) h = let l : v < e.0 = h.0 in omega arith

rising : (low : ℕ) (es : List (ℕ × ℤ)) → BeginsFrom low es → AreEntries es → IsTrue (are_small es) → rise_from low es ≡ true
rising low [] b a s = refl
rising low (e ∷ es) b a s =
    let t : nat_lt e.0 low ≡ false = grind (arith, nat_tests) in
    let z = nonzero-is e.1 a.1 in
    let k = both (is_small e.1) (are_small es) s in
    rw (t, z, k.0) (rising (e.0 + 1) es (begins-above e.0 es a.0) a.2 k.1)

pub zero-within : IsTrue (is_within (2 ^ 100) (pos 0))
unfolding is_within
zero-within = search rules

begins : (es : List (ℕ × ℤ)) → BeginsFrom 0 es
begins [] = tt
begins (e ∷ es) = omega arith

pub kept-made : (es : List (ℕ × ℤ)) → IsKept es → of_entries (pos 0) es ≡ Some (record { constant = pos 0; entries = es })
kept-made es k = let r = rising 0 es (begins es) k.entries k.small in rw (zero-within, r) refl
