-- Where the numbers of a formula and of a change are small, no number grows too large when the one is put into the other.
--
-- A form has at most 64 entries, since its variables rise and are below 64. So a form with numbers below 2^33 grows by at
-- most 64 products below 2^63, and stays far below 2^100.
use Rattle.std.proofs.Common.{◌≡◌, ℕ, zero, suc, ◌+◌, ◌*◌, ◌^◌, ◌<◌, ◌≤◌, Bool, true, false, List, [], ◌∷◌, refl, sym, ap, ◌∙◌, arith, length, subst}
use Rattle.std.specs.Prelude.{All, ◌==◌, ◌&&◌, ℤ, pos, negsuc, ◌+ℤ◌, ◌*ℤ◌, unsigned_abs, Option, Some, None, is_some, if◌then◌else◌, slice_get, option_and_then}
use Rattle.std.specs.Option.{option_map}
use Rattle.std.proofs.lemmas.Bool.Decides.{nat_tests}
use Rattle.std.proofs.lemmas.Int.{ints, unsigned_abs-mul}
use Rattle.std.proofs.lemmas.Option.{slice_get_within}
use Rattle.st_linear.specs.Linear.{Linear, is_within, is_small, are_small, fits, fitting, with_entry, joined, sum_of, scaled_entries, scaled, AreEntries, AllAbove, form_for, kept_entries, plus_scaled, with_one, with_listed, replaced}
use Rattle.st_linear.proofs.Joined.{joined-ind}
use Rattle.st_form.specs.Formula.{Formula, Formulas, truth_value, row, equal, bool_var, at, negation, every, some, none, more}
use Rattle.st_form.specs.Exchange.{Exchange, exchanged, all_exchanged}
use Rattle.transition_system.specs.Bounds.{EntriesWithin, LinearWithin, FormulaWithin, FormulasWithin, RisesFrom, ExchangeWithin, Suits}
use Rattle.basic_laws.proofs.Truths.{and_both as and_true}

-- each coefficient is at most n in size
abbrev AreWithin : ℕ → List (ℕ × ℤ) → Type 0
AreWithin n [] = Unit {0}
AreWithin n (e ∷ es) = (unsigned_abs e.1 ≤ n) × AreWithin n es

record IsWithin (n : ℕ) (f : Linear) : Type 0 where
  constant : unsigned_abs f.constant ≤ n
  entries : AreWithin n f.entries

AreWithin-weaker : (n m : ℕ) (es : List (ℕ × ℤ)) → n ≤ m → AreWithin n es → AreWithin m es
AreWithin-weaker n m [] le h = tt
AreWithin-weaker n m (e ∷ es) le h = (omega (arith, h.0), AreWithin-weaker n m es le h.1)

AreWithin-with_entry : (n v : ℕ) (c : ℤ) (es : List (ℕ × ℤ)) → unsigned_abs c ≤ n → AreWithin n es → AreWithin n (with_entry v c es)
AreWithin-with_entry n v (pos zero) es le h = h
AreWithin-with_entry n v (pos (suc k)) es le h = (le, h)
AreWithin-with_entry n v (negsuc k) es le h = (le, h)

abs_sum : (a b : ℤ) → unsigned_abs (a +ℤ b) ≤ unsigned_abs a + unsigned_abs b
abs_sum a b = omega (arith, ints)

AreWithin-joined : (n m : ℕ) (xs ys : List (ℕ × ℤ)) → AreWithin n xs → AreWithin m ys → AreWithin (n + m) (joined xs ys)
AreWithin-joined n m =
    joined-ind (λ xs ys zs. AreWithin n xs → AreWithin m ys → AreWithin (n + m) zs)
    (λ ys h k. AreWithin-weaker m (n + m) ys (omega arith) k)
    (λ x xs h k. AreWithin-weaker n (n + m) (x ∷ xs) (omega arith) h)
    (λ x y xs ys zs o p h k. (omega (arith, h.0), p h.1 k))
    (λ x y xs ys zs o p h k. (omega (arith, k.0), p h k.1))
    (λ x y xs ys zs o p h k. AreWithin-with_entry (n + m) x.0 (x.1 +ℤ y.1) zs (omega (arith, abs_sum x.1 y.1, h.0, k.0)) (p h.1 k.1))

IsWithin-sum_of : (n m : ℕ) (f g : Linear) → IsWithin n f → IsWithin m g → IsWithin (n + m) (sum_of f g)
IsWithin-sum_of n m f g h k = record {
  constant = omega (arith, abs_sum f.constant g.constant, h.constant, k.constant);
  entries = AreWithin-joined n m f.entries g.entries h.entries k.entries;
}

abs_product : (a b : ℤ) (n m : ℕ) → unsigned_abs a ≤ n → unsigned_abs b ≤ m → unsigned_abs (a *ℤ b) ≤ n * m
abs_product a b n m h k = rw (unsigned_abs-mul a b) (grind arith)

AreWithin-scaled : (n m : ℕ) (c : ℤ) (es : List (ℕ × ℤ)) → unsigned_abs c ≤ m → AreWithin n es → AreWithin (n * m) (scaled_entries c es)
AreWithin-scaled n m c [] le h = tt
AreWithin-scaled n m c (e ∷ es) le h =
    AreWithin-with_entry (n * m) e.0 (e.1 *ℤ c) (scaled_entries c es) (abs_product e.1 c n m h.0 le) (AreWithin-scaled n m c es le h.1)

IsWithin-scaled : (n m : ℕ) (c : ℤ) (f : Linear) → unsigned_abs c ≤ m → IsWithin n f → IsWithin (n * m) (scaled c f)
IsWithin-scaled n m c f le h = record {
  constant = abs_product f.constant c n m h.constant le;
  entries = AreWithin-scaled n m c f.entries le h.entries;
}

pub small_within : (n : ℕ) (z : ℤ) → n < 2 ^ 100 → unsigned_abs z ≤ n → is_small z ≡ true
unfolding is_within
small_within n z below le = grind (arith, nat_tests)

are_small_within : (n : ℕ) (es : List (ℕ × ℤ)) → n < 2 ^ 100 → AreWithin n es → are_small es ≡ true
are_small_within n [] below h = refl
are_small_within n (e ∷ es) below h = and_true _ _ (small_within n e.1 below h.0) (are_small_within n es below h.1)

fits_within : (n : ℕ) (f : Linear) → n < 2 ^ 100 → IsWithin n f → fits f ≡ true
fits_within n f below h = and_true _ _ (small_within n f.constant below h.constant) (are_small_within n f.entries below h.entries)

fitting_within : (n : ℕ) (f : Linear) → n < 2 ^ 100 → IsWithin n f → fitting f ≡ Some f
unfolding fitting
fitting_within n f below h = rw (fits_within n f below h) refl

-- what is listed for a variable is small
abbrev AreSmall : List (ℕ × Linear) → Type 0
AreSmall ps = (v : ℕ) (g : Linear) → form_for v ps ≡ Some g → IsWithin (2 ^ 30) g

-- a step of a replacement
module _ (ps : List (ℕ × Linear)) (small : AreSmall ps) where
  plus : (b : ℕ) (f : Linear) (c : ℤ) (g : Linear) → b ≤ 2 ^ 70 → IsWithin b f → unsigned_abs c ≤ 2 ^ 33 → IsWithin (2 ^ 30) g
      → (h : Linear) × (plus_scaled f c g ≡ Some h) × IsWithin (b + 2 ^ 63) h
  plus b f c g le w k s =
      let product : IsWithin (2 ^ 30 * 2 ^ 33) (scaled c g) = IsWithin-scaled (2 ^ 30) (2 ^ 33) c g k s in
      let sum : IsWithin (b + 2 ^ 63) (sum_of f (scaled c g)) = IsWithin-sum_of b (2 ^ 63) f (scaled c g) w product in (
        sum_of f (scaled c g),
        ap (option_and_then (λ p. fitting (sum_of f p))) (fitting_within (2 ^ 63) (scaled c g) (omega arith) product) ∙ fitting_within (b + 2 ^ 63) (sum_of f (scaled c g)) (omega arith) sum,
        sum,
      )

  listed : (es : List (ℕ × ℤ)) (b : ℕ) (f : Linear) → AreWithin (2 ^ 33) es → IsWithin b f → b + length es * 2 ^ 63 ≤ 2 ^ 70 → (r : Linear) × (with_listed ps es f ≡ Some r)
  listed [] b f h w le = (f, refl)
  listed (e ∷ es) b f h w le = at_form (form_for e.0 ps) refl (λ c g k. listed es c g h.1 k)
    where
      at_form : (o : Option Linear) → form_for e.0 ps ≡ o → ((c : ℕ) (g : Linear) → IsWithin c g → c + length es * 2 ^ 63 ≤ 2 ^ 70 → (r : Linear) × (with_listed ps es g ≡ Some r))
          → (r : Linear) × (with_one o e.1 (with_listed ps es) f ≡ Some r)
      at_form None q rest = rest b f w (omega arith)
      at_form (Some g) q rest =
          let p = plus b f e.1 g (omega arith) w h.0 (small e.0 g q) in
          let r = rest (b + 2 ^ 63) p.0 p.2 (omega arith) in
          (r.0, ap (option_and_then (with_listed ps es)) p.1 ∙ r.1)

AreWithin-kept : (n : ℕ) (ps : List (ℕ × Linear)) (es : List (ℕ × ℤ)) → AreWithin n es → AreWithin n (kept_entries ps es)
AreWithin-kept n ps [] h = tt
AreWithin-kept n ps (e ∷ es) h =
    let rest = AreWithin-kept n ps es h.1 in
    elim (is_some (form_for e.0 ps)) as (λ b. AreWithin n (if b then kept_entries ps es else e ∷ kept_entries ps es)) [ true ↦ rest | false ↦ (h.0, rest) ]

-- rising variables of a list of types are at most as many as the types
AllAbove-lower : (v w : ℕ) (es : List (ℕ × ℤ)) → v < w → AllAbove w es → AllAbove v es
AllAbove-lower v w [] le h = tt
AllAbove-lower v w (e ∷ es) le h = (omega (arith, h.0), AllAbove-lower v w es le h.1)

few_above : (truths : List Bool) (bound v : ℕ) (es : List (ℕ × ℤ)) → AllAbove v es → AreEntries es → EntriesWithin truths bound es → v < length truths → length es + suc v ≤ length truths
few_above truths bound v [] a h w le = omega arith
few_above truths bound v (e ∷ es) a h w le =
    let n : e.0 < length truths = slice_get_within truths e.0 false w.0 in
    let k = few_above truths bound e.0 es h.0 h.2 w.2 n in
    omega (arith, a.0, k)

few : (truths : List Bool) (bound : ℕ) (es : List (ℕ × ℤ)) → AreEntries es → EntriesWithin truths bound es → length es ≤ length truths
few truths bound [] h w = omega arith
few truths bound (e ∷ es) h w =
    let n : e.0 < length truths = slice_get_within truths e.0 false w.0 in
    let k = few_above truths bound e.0 es h.0 h.2 w.2 n in
    omega (arith, k)

are_within : (truths : List Bool) (bound : ℕ) (es : List (ℕ × ℤ)) → EntriesWithin truths (suc bound) es → AreWithin bound es
are_within truths bound [] h = tt
are_within truths bound (e ∷ es) h = (omega (arith, h.1), are_within truths bound es h.2)

is_within_by : (truths : List Bool) (bound : ℕ) (f : Linear) → LinearWithin truths (suc bound) f → IsWithin bound f
is_within_by truths bound f h = record { constant = omega (arith, h.constant); entries = are_within truths bound f.entries h.entries }

are_all_small : (truths : List Bool) (ps : List (ℕ × Linear)) → All (λ p. (slice_get truths p.0 ≡ Some false) × LinearWithin truths (2 ^ 30 + 1) p.1) ps → AreSmall ps
are_all_small truths [] h v g q = cc
are_all_small truths (p ∷ ps) h v g q = at_key (p.0 == v) q (λ k. are_all_small truths ps (λ i d le. h (suc i) d (omega arith)) v g k)
  where
    at_key : (b : Bool) → (if b then Some p.1 else form_for v ps) ≡ Some g → (form_for v ps ≡ Some g → IsWithin (2 ^ 30) g) → IsWithin (2 ^ 30) g
    at_key true q rest = let same : p.1 ≡ g = cc in subst (IsWithin (2 ^ 30)) same (is_within_by truths (2 ^ 30) p.1 (h 0 p (omega arith)).1)
    at_key false q rest = rest q

module _ (truths : List Bool) (locations : ℕ) (x : Exchange) (at_most : length truths ≤ 64) (change : ExchangeWithin truths locations x) where
  replaced_exists : (f : Linear) → LinearWithin truths (2 ^ 33) f → (r : Linear) × (replaced x.numbers f ≡ Some r)
  replaced_exists f h =
      let w : IsWithin (2 ^ 33) f = record { constant = omega (arith, h.constant); entries = are_within truths (2 ^ 33) f.entries (weaker f.entries h.entries) } in
      let n = few truths (2 ^ 33) f.entries h.rising h.entries in
      listed x.numbers (are_all_small truths x.numbers change.numbers) f.entries (2 ^ 33) _ w.entries
      (record { constant = w.constant; entries = AreWithin-kept (2 ^ 33) x.numbers f.entries w.entries })
      (omega arith)
    where
      weaker : (es : List (ℕ × ℤ)) → EntriesWithin truths (2 ^ 33) es → EntriesWithin truths (suc (2 ^ 33)) es
      weaker [] h = tt
      weaker (e ∷ es) h = (h.0, omega (arith, h.1), weaker es h.2)

  mutual
    exists : (f : Formula) → FormulaWithin truths locations (2 ^ 33) f → (g : Formula) × (exchanged x f ≡ Some g)
    exists (truth_value b) h = (truth_value b, refl)
    exists (row f) h = let r = replaced_exists f h in (row r.0, ap (option_map row) r.1)
    exists (equal f) h = let r = replaced_exists f h in (equal r.0, ap (option_map equal) r.1)
    exists (bool_var v) h = (_, refl)
    exists (at l) h = (_, refl)
    exists (negation f) h = let r = exists f h in (negation r.0, ap (option_map negation) r.1)
    exists (every fs) h = let r = all_exist fs h in (every r.0, ap (option_map every) r.1)
    exists (some fs) h = let r = all_exist fs h in (some r.0, ap (option_map some) r.1)

    all_exist : (fs : Formulas) → FormulasWithin truths locations (2 ^ 33) fs → (gs : Formulas) × (all_exchanged x fs ≡ Some gs)
    all_exist none h = (none, refl)
    all_exist (more f fs) h =
        let r = exists f h.0 in
        let rs = all_exist fs h.1 in
        (more r.0 rs.0, ap (option_and_then (λ g. option_map (more g) (all_exchanged x fs))) r.1 ∙ ap (option_map (more r.0)) rs.1)

-- so a replacement that suits is there
pub suits-exchanged : (f : Formula) (x : Exchange) → Suits f x → exchanged x f ≡ None → ⊥
suits-exchanged f x h n = let g = exists h.truths h.locations x h.few h.change f h.formula in let e : None ≡ Some g.0 = rw (← n) g.1 in cc

-- a variable of two integer ones is small
pub variable-within : (bound v : ℕ) (f : Linear) → 1 < bound → v < 2 → f ≡ record { constant = pos 0; entries = (v, pos 1) ∷ [] } → LinearWithin (false ∷ false ∷ []) bound f
variable-within bound v f le below same = subst (LinearWithin (false ∷ false ∷ []) bound) (sym same) (by_place v below)
  where
    by_place : (v : ℕ) → v < 2 → LinearWithin (false ∷ false ∷ []) bound (record { constant = pos 0; entries = (v, pos 1) ∷ [] })
    by_place zero k = record { rising = (tt, (λ q. cc), tt); constant = omega arith; entries = (refl, le, tt) }
    by_place (suc zero) k = record { rising = (tt, (λ q. cc), tt); constant = omega arith; entries = (refl, le, tt) }
    by_place (suc (suc v)) k = absurd (omega arith)

-- a change that gives the first of two integer variables a value, and moves no control
pub gives-first : (f : Linear) (x : Exchange) → x.numbers ≡ (0, f) ∷ [] → x.truths ≡ [] → x.leaves ≡ [] → x.enters ≡ []
    → LinearWithin (false ∷ false ∷ []) (2 ^ 30 + 1) f → ExchangeWithin (false ∷ false ∷ []) 0 x
gives-first f x n t l e h = record {
  numbers_rise = subst (RisesFrom 0) (sym n) (omega arith, tt);
  truths_rise = subst (RisesFrom 0) (sym t) tt;
  numbers = subst (All (λ (p : ℕ × Linear). (slice_get (false ∷ false ∷ []) p.0 ≡ Some false) × LinearWithin (false ∷ false ∷ []) (2 ^ 30 + 1) p.1)) (sym n) one;
  truth_values = subst (All (λ (p : ℕ × Formula). (slice_get (false ∷ false ∷ []) p.0 ≡ Some true) × FormulaWithin (false ∷ false ∷ []) 0 (2 ^ 69) p.1)) (sym t) (λ k d le. absurd (omega arith));
  leaves = subst (All (λ (m : ℕ). m < 0)) (sym l) (λ k d le. absurd (omega arith));
  enters = subst (All (λ (m : ℕ). m < 0)) (sym e) (λ k d le. absurd (omega arith));
}
  where
    one : All (λ (p : ℕ × Linear). (slice_get (false ∷ false ∷ []) p.0 ≡ Some false) × LinearWithin (false ∷ false ∷ []) (2 ^ 30 + 1) p.1) ((0, f) ∷ [])
    one zero d le = (refl, h)
    one (suc k) d le = absurd (omega arith)
