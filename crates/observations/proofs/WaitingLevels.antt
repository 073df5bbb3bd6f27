-- Waiting-for by cases gives levels that never rise: the level of a position is that of the formula which is kept there.
use Rattle.std.proofs.Common.{◌≡◌, ℕ, zero, suc, ◌+◌, ◌-◌, ◌≤◌, ◌<◌, List, [], ◌∷◌, length, Bool, true, false, cond, IsTrue, arith, refl, sym, subst}
use Rattle.std.specs.Prelude.{◌==◌}
use Rattle.std.proofs.lemmas.Bool.Decides.{nat_tests}
use native.Mathlib.Decide.{dec_le}
use Rattle.observations.specs.Observation.{Observation, state_at, last}
use Rattle.observations.specs.Goals.{level_form, LevelsFrom}
use Rattle.observations.specs.Waits.Waits.{Ended, Reached, Kept, Passed}
use Rattle.observations.specs.Waits.{Waits}

test_true : (a b : ℕ) → a ≡ b → (a == b) ≡ true
test_true a b e = grind (arith, nat_tests)

test_false : (a b : ℕ) → a < b → (a == b) ≡ false
test_false a b h = grind (arith, nat_tests)

module _ {S : Type 0} (o : Observation S) where
  -- at a level of the rest the formula is the rest's
  pub rest_form : (f : S → Bool) (fs : List (S → Bool)) (j : ℕ) (s : S) → j < length fs → level_form (f ∷ fs) j s ≡ level_form fs j s
  rest_form f fs j s h = rw (test_false j (length fs) h)

  pub top_form : (f : S → Bool) (fs : List (S → Bool)) (s : S) → level_form (f ∷ fs) (length fs) s ≡ f s
  top_form f fs s = rw (test_true (length fs) (length fs) refl)

  -- the levels of all positions from k on are below that of the first
  all_low : (fs : List (S → Bool)) (k : ℕ) (v : LevelsFrom o fs k) (n : ℕ) → k + n ≤ last o → v.level (k + n) < length fs
  all_low fs k v zero h = (let e : k ≡ k + 0 = omega arith in subst (λ x. v.level x < length fs) e v.first)
  all_low fs k v (suc n) h =
      let before = all_low fs k v n (omega arith) in
      let step = v.falls (k + n) (omega arith) (omega arith) in
      let e : suc (k + n) ≡ k + suc n = omega arith in
      subst (λ x. v.level x < length fs) e (omega arith)

  low_at : (fs : List (S → Bool)) (k x : ℕ) (v : LevelsFrom o fs k) → k ≤ x → x ≤ last o → v.level x < length fs
  low_at fs k x v a b = (let e : k + (x - k) ≡ x = omega arith in subst (λ z. v.level z < length fs) e (all_low fs k v (x - k) (omega arith)))

  passed : (f : S → Bool) (fs : List (S → Bool)) (k : ℕ) → k ≤ last o → LevelsFrom o fs k → LevelsFrom o (f ∷ fs) k
  passed f fs k h v = record {
    level = v.level;
    first = (let lt = v.first in omega arith);
    falls = v.falls;
    above = λ x a b up. rw (rest_form f fs (v.level x) (state_at o x) (low_at fs k x v a b)) (v.above x a b up);
    begin = λ x a b e all. rw (rest_form f fs 0 (state_at o x) (let low = low_at fs k x v a b in omega arith)) (v.begin x a b e all);
  }

  alone : (f : S → Bool) (k : ℕ) → IsTrue (f (state_at o k)) → LevelsFrom o (f ∷ []) k
  alone f k h = record {
    level = λ x. 0;
    first = omega arith;
    falls = λ x a b. omega arith;
    above = λ x a b up. absurd (omega arith);
    begin = λ x a b e all. elim (dec_le x k) [
      | yes le ↦ (let same : k ≡ x = omega arith in subst (λ z. IsTrue (f (state_at o z))) same h)
      | no gt ↦ absurd (let up = all k (omega arith) (omega arith) in omega arith)
    ];
  }

  at_last : (f g : S → Bool) (fs : List (S → Bool)) (k : ℕ) → k ≡ last o → IsTrue (f (state_at o k)) → LevelsFrom o (f ∷ g ∷ fs) k
  at_last f g fs k e h = record {
    level = λ x. length (g ∷ fs);
    first = omega arith;
    falls = λ x a b. omega arith;
    above = λ x a b up. (let same : k ≡ x = omega arith in rw (top_form f (g ∷ fs) (state_at o x)) (subst (λ z. IsTrue (f (state_at o z))) same h));
    begin = λ x a b e all. absurd (omega arith);
  }

  kept_by : (f g : S → Bool) (fs : List (S → Bool)) (k : ℕ) → k < last o → IsTrue (f (state_at o k)) → (v : LevelsFrom o (f ∷ g ∷ fs) (suc k))
      → (level : ℕ → ℕ) → level k ≡ length (g ∷ fs) → ((x : ℕ) → k < x → level x ≡ v.level x) → LevelsFrom o (f ∷ g ∷ fs) k
  kept_by f g fs k h holds v level here there = record {
    level = level;
    first = omega arith;
    falls = λ x a b. elim (dec_le x k) [
      | yes le ↦ (let same : x ≡ k = omega arith in subst (λ z. level (suc z) ≤ level z) (sym same) (let e = there (suc k) (omega arith) in let lt = v.first in omega arith))
      | no gt ↦ (let e = there x (omega arith) in let e2 = there (suc x) (omega arith) in let le = v.falls x (omega arith) b in omega arith)
    ];
    above = λ x a b up. elim (dec_le x k) [
      | yes le ↦ (let same : k ≡ x = omega arith in subst (λ z. IsTrue (level_form (f ∷ g ∷ fs) (level z) (state_at o z))) same (rw here (rw (top_form f (g ∷ fs) (state_at o k)) holds)))
      | no gt ↦ (let e = there x (omega arith) in rw e (v.above x (omega arith) b (omega arith)))
    ];
    begin = λ x a b e all. elim (dec_le x k) [
      | yes le ↦ (let same : x ≡ k = omega arith in absurd (let z = subst (λ y. level y ≡ 0) same e in omega arith))
      | no gt ↦ (let e2 = there x (omega arith) in v.begin x (omega arith) b (omega arith) (λ y c d. let e3 = there y (omega arith) in let up = all y (omega arith) d in omega arith))
    ];
  }

  later_test : (x k : ℕ) → k < x → (x == k) ≡ false
  later_test x k lt = grind (arith, nat_tests)

  kept : (f g : S → Bool) (fs : List (S → Bool)) (k : ℕ) → k < last o → IsTrue (f (state_at o k)) → LevelsFrom o (f ∷ g ∷ fs) (suc k) → LevelsFrom o (f ∷ g ∷ fs) k
  kept f g fs k h holds v =
      kept_by f g fs k h holds v (λ x. cond (x == k) (length (g ∷ fs)) (v.level x)) (rw (test_true k k refl)) (λ x lt. rw (later_test x k lt))

  pub levels : (forms : List (S → Bool)) (k : ℕ) → k ≤ last o → Waits o forms k → LevelsFrom o forms k
  levels forms k h (Ended gone) = absurd (omega arith)
  levels (f ∷ []) k h (Reached holds) = alone f k holds
  levels (f ∷ g ∷ fs) k h (Kept holds rest) = elim (dec_le (suc k) (last o)) [
    | yes more ↦ kept f g fs k more holds (levels (f ∷ g ∷ fs) (suc k) more rest)
    | no end ↦ at_last f g fs k (omega arith) holds
  ]
  levels (f ∷ g ∷ fs) k h (Passed rest) = passed f (g ∷ fs) k h (levels (g ∷ fs) k h rest)
