-- Levels that never rise give waiting-for by cases: a formula is kept while its level stays, and those between are passed
-- over where the level falls.
use Rattle.std.proofs.Common.{◌≡◌, ℕ, zero, suc, ◌+◌, ◌-◌, ◌≤◌, ◌<◌, List, [], ◌∷◌, length, Bool, IsTrue, arith, subst}
use native.Mathlib.Decide.{dec_le}
use Rattle.observations.specs.Observation.{Observation, state_at, last}
use Rattle.observations.specs.Goals.{level_form, LevelsFrom}
use Rattle.observations.specs.Waits.Waits.{Ended, Reached, Kept, Passed}
use Rattle.observations.specs.Waits.{Waits}
use Rattle.observations.proofs.WaitingLevels.{rest_form, top_form}

module _ {S : Type 0} (o : Observation S) where
  -- no level is above the first
  bounded : (forms : List (S → Bool)) (k : ℕ) (v : LevelsFrom o forms k) (n : ℕ) → k + n ≤ last o → v.level (k + n) ≤ v.level k
  bounded forms k v zero h = (let e : k ≡ k + 0 = omega arith in subst (λ x. v.level x ≤ v.level k) e (omega arith))
  bounded forms k v (suc n) h =
      let before = bounded forms k v n (omega arith) in
      let step = v.falls (k + n) (omega arith) (omega arith) in
      let e : suc (k + n) ≡ k + suc n = omega arith in
      subst (λ x. v.level x ≤ v.level k) e (omega arith)

  bounded_at : (forms : List (S → Bool)) (k x : ℕ) (v : LevelsFrom o forms k) → k ≤ x → x ≤ last o → v.level x ≤ v.level k
  bounded_at forms k x v a b = (let e : k + (x - k) ≡ x = omega arith in subst (λ z. v.level z ≤ v.level k) e (bounded forms k v (x - k) (omega arith)))

  -- the highest formula isn't kept, so the levels are those of the others
  without_first : (f : S → Bool) (fs : List (S → Bool)) (k : ℕ) (v : LevelsFrom o (f ∷ fs) k) → v.level k < length fs → LevelsFrom o fs k
  without_first f fs k v low = record {
    level = v.level;
    first = low;
    falls = v.falls;
    above = λ x a b up. (let less = bounded_at (f ∷ fs) k x v a b in subst IsTrue (rest_form o f fs (v.level x) (state_at o x) (omega arith)) (v.above x a b up));
    begin = λ x a b e all. subst IsTrue (rest_form o f fs 0 (state_at o x) (omega arith)) (v.begin x a b e all);
  }

  -- the levels from the next position on
  behind : (forms : List (S → Bool)) (k : ℕ) → k < last o → (v : LevelsFrom o forms k) → 0 < v.level k → LevelsFrom o forms (suc k)
  behind forms k below v up = record {
    level = v.level;
    first = (let fall = v.falls k (omega arith) below in let first = v.first in omega arith);
    falls = λ x from less. v.falls x (omega arith) less;
    above = λ x from within more. v.above x (omega arith) within more;
    begin = λ x from within none before. v.begin x (omega arith) within none (λ y low high. elim (dec_le (suc k) y) [
      | yes further ↦ before y further high
      | no same ↦ (let e : k ≡ y = omega arith in subst (λ z. 0 < v.level z) e up)
    ]);
  }

  at_zero : (f : S → Bool) (k : ℕ) → k ≤ last o → LevelsFrom o (f ∷ []) k → IsTrue (f (state_at o k))
  at_zero f k within v =
      let first = v.first in
      subst IsTrue (top_form o f [] (state_at o k)) (v.begin k (omega arith) within (omega arith) (λ x a b. absurd (omega arith)))

  -- the cases at a position, where the next one has them
  cases : (forms : List (S → Bool)) (k : ℕ) → k ≤ last o → LevelsFrom o forms k → (k < last o → (forms : List (S → Bool)) → LevelsFrom o forms (suc k) → Waits o forms (suc k)) → Waits o forms k
  cases [] k within v further = absurd (let first = v.first in omega arith)
  cases (f ∷ []) k within v further = Reached (at_zero f k within v)
  cases (f ∷ g ∷ fs) k within v further = elim (dec_le (length (g ∷ fs)) (v.level k)) [
    | yes top ↦ (
        let first = v.first in
        let e : v.level k ≡ length (g ∷ fs) = omega arith in
        let holds = subst (λ z. IsTrue z) (top_form o f (g ∷ fs) (state_at o k)) (subst (λ z. IsTrue (level_form (f ∷ g ∷ fs) z (state_at o k))) e (v.above k (omega arith) within (omega arith))) in
        Kept holds (elim (dec_le (suc k) (last o)) [
          | yes more ↦ further more (f ∷ g ∷ fs) (behind (f ∷ g ∷ fs) k more v (omega arith))
          | no end ↦ Ended (omega arith)
        ])
        )
    | no low ↦ Passed (cases (g ∷ fs) k within (without_first f (g ∷ fs) k v (omega arith)) further)
  ]

  waits_so : (n : ℕ) (forms : List (S → Bool)) (k : ℕ) → k + n ≡ last o → LevelsFrom o forms k → Waits o forms k
  waits_so zero forms k e v = cases forms k (omega arith) v (λ more. absurd (omega arith))
  waits_so (suc n) forms k e v = cases forms k (omega arith) v (λ more fs w. waits_so n fs (suc k) (omega arith) w)

  pub waits : (forms : List (S → Bool)) (k : ℕ) → k ≤ last o → LevelsFrom o forms k → Waits o forms k
  waits forms k within v = waits_so (last o - k) forms k (omega arith) v
