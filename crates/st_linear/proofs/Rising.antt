-- What the test of rising variables shows.
use Rattle.std.proofs.Common.{◌≡◌, ◌≢◌, ℕ, ◌+◌, ◌<◌, Bool, true, false, cond, ◌||◌, not, IsTrue, List, [], ◌∷◌, ℤ, pos, refl, ap, arith, nat_lt}
use Rattle.std.proofs.lemmas.Bool.Decides.{nat_tests}
use Rattle.std.proofs.lemmas.Bool.{and_from}
use Rattle.st_linear.specs.Linear.{is_small, are_small, rise_from, is_zero, AllAbove, AreEntries}
use Rattle.basic_laws.proofs.Truths.{not_false}

pub guard : (b x : Bool) → cond b false x ≡ true → (b ≡ false) × (x ≡ true)
guard true x h = cc
guard false x h = (refl, h)

pub or_false : (a b : Bool) → (a || b) ≡ false → (a ≡ false) × (b ≡ false)
or_false true b h = cc
or_false false b h = (refl, h)

pub not_zero : (z : ℤ) → is_zero z ≡ false → z ≢ pos 0
not_zero z h e = let k : is_zero z ≡ true = ap is_zero e in cc

pub all_above : (v low : ℕ) (es : List (ℕ × ℤ)) → v < low → rise_from low es ≡ true → AllAbove v es
all_above v low [] less h = tt
all_above v low (e ∷ es) less h =
    let g = guard _ _ h in
    let o = or_false _ _ g.0 in
    let p : nat_lt e.0 low ≡ false = (or_false _ _ o.0).0 in
    let k : v < e.0 = grind (arith, nat_tests) in
    (k, all_above v (e.0 + 1) es (grind arith) g.1)

pub entries_rise : (low : ℕ) (es : List (ℕ × ℤ)) → rise_from low es ≡ true → AreEntries es × IsTrue (are_small es)
entries_rise low [] h = (tt, refl)
entries_rise low (e ∷ es) h =
    let g = guard _ _ h in
    let o = or_false _ _ g.0 in
    let rest = entries_rise (e.0 + 1) es g.1 in
    let small : is_small e.1 ≡ true = not_false _ o.1 in
    ((all_above e.0 (e.0 + 1) es (omega arith) g.1, not_zero _ (or_false _ _ o.0).1, rest.0), and_from _ _ small rest.1)
