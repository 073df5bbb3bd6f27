use Rattle.std.proofs.Common.{◌≡◌, ◌≢◌, ℕ, zero, suc, ◌<◌, ◌/◌, Bool, true, false, Option, Some, [], ◌∷◌, refl, sym, subst, arith, ℤ, pos, negsuc}
use Rattle.std.specs.Prelude.{unsigned_abs, if◌then◌else◌}
use Prim.Native.Nat.{◌∣◌}
use Rattle.std.specs.Int.{IsGcd}
use Rattle.std.proofs.Math.Nat.{eq-zero_of_zero-dvd}
use Rattle.std.proofs.lemmas.Nat.Gcd.{dvd_trans}
use Rattle.st_linear.proofs.Dividing.{common_divisor-is}
use Rattle.elimination_laws.specs.Mixing.{Tracked, mixed, part_of, shared, first_factor, second_factor, against}
use Rattle.st_linear.specs.Linear.{is_zero}
use Rattle.elimination_laws.specs.Stages.{freed, paired}
use Rattle.basic_laws.proofs.Integers.{size_not_zero as above_zero}

pub gcd-positive : (a c : ℤ) (g : ℕ) → a ≢ pos 0 → IsGcd (unsigned_abs a) (unsigned_abs c) g → g ≢ 0
gcd-positive a c g h k e = above_zero a h (eq-zero_of_zero-dvd (subst (λ g. g ∣ unsigned_abs a) e k.0))

pub shared-is : (a c : ℤ) (g : ℕ) → a ≢ pos 0 → c ≢ pos 0 → IsGcd (unsigned_abs a) (unsigned_abs c) g → g ≡ shared a c
unfolding shared
shared-is a c g h k i =
    sym (common_divisor-is ((0, a) ∷ (1, c) ∷ []) g ((omega arith, tt), h, (tt, k, tt)) (gcd-positive a c g h i)
    (λ d p. (dvd_trans d p i.0, (dvd_trans d p i.1, tt)))
    (λ d p. i.2 d p.0 p.1.0))

pub not_zero-positive : (g : ℕ) → g ≢ 0 → 0 < g
not_zero-positive zero h = absurd (h refl)
not_zero-positive (suc g) h = omega arith

pub first-is : (a c x : ℤ) (g : ℕ) → x ≡ pos (unsigned_abs c / g) → g ≡ shared a c → x ≡ first_factor a c
unfolding first_factor
first-is a c x g h k = rw (h, k) refl

pub second-is : (a c x : ℤ) (g : ℕ) → x ≡ pos (unsigned_abs a / g) → g ≡ shared a c → x ≡ second_factor a c
unfolding second_factor
second-is a c x g h k = rw (h, k) refl

by_zero : (b : Bool) (t : Tracked) (m : Option Tracked) → b ≡ false → m ≡ (if b then Some t else m)
by_zero true t m h = absurd (cc)
by_zero false t m h = refl

pub freed-is : (v : ℕ) (e t : Tracked) (a c x y : ℤ) → part_of v t ≡ a → part_of v e ≡ c → is_zero a ≡ false → x ≡ first_factor a c → y ≡ against a c → mixed t.equal x t y e ≡ freed v e t
freed-is v e t a c x y h k z i j = rw (i, j, ← h, ← k) (by_zero (is_zero (part_of v t)) t _ (rw (← h) at z))

pub paired-is : (v : ℕ) (p n : Tracked) (a c x y : ℤ) → part_of v p ≡ a → part_of v n ≡ c → x ≡ first_factor a c → y ≡ second_factor a c → mixed false x p y n ≡ paired v p n
paired-is v p n a c x y h k i j = rw (i, j, ← h, ← k) refl

pub zero-not : (z : ℤ) → is_zero z ≡ false → z ≢ pos 0
zero-not (pos zero) h e = absurd (cc)
zero-not (pos (suc n)) h e = absurd (cc)
zero-not (negsuc n) h e = absurd (cc)

pub not-zero : (z : ℤ) → z ≢ pos 0 → is_zero z ≡ false
not-zero (pos zero) h = absurd (h refl)
not-zero (pos (suc n)) h = refl
not-zero (negsuc n) h = refl
