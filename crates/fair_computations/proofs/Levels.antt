-- Levels for all positions, where each beginning has some.
--
-- The levels of a beginning need not go on. But the highest ones do: level 0 as soon as its formula holds, and before the
-- highest level with its formula that is no higher than the last. They are above those of every beginning.
use Rattle.std.proofs.Common.{◌≡◌, ℕ, zero, suc, ◌+◌, ◌-◌, ◌≤◌, ◌<◌, inl, inr, List, length, Bool, true, false, IsTrue, arith, refl, sym, subst}
use native.Mathlib.Decide.{dec_le}
use Rattle.observations.specs.Goals.{level_form, LevelsFrom, Waiting}
use Rattle.observations.proofs.Queue.{true_or_false}
use Rattle.fair_computations.specs.Computations.{Computation, beginning}
use Rattle.fair_computations.specs.Goals.{EndlessLevels, WaitingOf}
use Rattle.fair_computations.proofs.Beginnings.{steps_length, state_is}
use Rattle.fair_computations.proofs.Highest.{form_at, highest, highest_holds, highest_most, lower, lower_below, lower_holds, step, step_below, step_is, step_from}

module _ {S : Type 0} (c : Computation S) (forms : List (S → Bool)) where
  module _ (i : ℕ) where
    -- the highest c forms level that is left for the n-th position from i on
    abbrev level_after : ℕ → ℕ
    level_after zero = lower c forms (length forms - 1) (i + 0)
    level_after (suc n) = step c forms (level_after n) (i + suc n)

    abbrev left_for : ℕ → ℕ
    left_for zero = length forms - 1
    left_for (suc n) = level_after n

    -- positions before the n-th have levels above 0
    abbrev Before : (ℕ → ℕ) → ℕ → Type 0
    Before level n = (j : ℕ) → j < n → 0 < level j

    after_is : (n : ℕ) → Before level_after n → level_after n ≡ lower c forms (left_for n) (i + n)
    after_is zero before = refl
    after_is (suc n) before = step_is c forms (level_after n) (i + suc n) (before n (omega arith))

    after_holds : (n : ℕ) → 0 < level_after n → form_at c forms (level_after n) (i + n) ≡ true
    after_holds zero up = (let is = lower_holds c forms (length forms - 1) (i + 0) up in rw is.1 (highest_holds c forms (length forms - 1) (i + 0) (rw is.1 at up)))
    after_holds (suc n) up =
        let top = level_after n in
        let k : ℕ = i + suc n in
        let before = step_from c forms top k up in
        let same = step_is c forms top k before in
        let is = lower_holds c forms top k (rw same at up) in
        rw same (rw is.1 (highest_holds c forms top k (rw is.1 at (rw same at up))))

    module _ (N : ℕ) (v : LevelsFrom (beginning c N) forms i) where
      abbrev given : ℕ → ℕ
      given n = v.level (i + n)

      given_form : (n : ℕ) → i + n ≤ N → 0 < given n → form_at c forms (given n) (i + n) ≡ true
      given_form n h up = subst (λ s. level_form forms (given n) s ≡ true) (state_is c N (i + n) h) (v.above (i + n) (omega arith) (let long = steps_length c N 0 in omega arith) up)

      given_up : (n : ℕ) → i + n ≤ N → Before given n → form_at c forms 0 (i + n) ≡ false → 0 < given n
      given_up n h before off = elim (dec_le (given n) 0) [
        | no up ↦ omega arith
        | yes none ↦ (
            let on : form_at c forms 0 (i + n) ≡ true =
            subst (λ s. level_form forms 0 s ≡ true) (state_is c N (i + n) h)
            (v.begin (i + n) (omega arith) (let long = steps_length c N 0 in omega arith) (omega arith)
            (λ x from below. let e : i + (x - i) ≡ x = omega arith in subst (λ z. 0 < v.level z) e (before (x - i) (omega arith)))) in
            absurd (cc)
            )
      ]

      -- where level 0 is not reached, a given level is one of those that are left
      given_low : (n : ℕ) → i + n ≤ N → Before given n → given n ≤ left_for n → form_at c forms 0 (i + n) ≡ false → (0 < given n) × (given n ≤ highest c forms (left_for n) (i + n))
      given_low n h before low off =
          let up = given_up n h before off in
          (up, highest_most c forms (left_for n) (i + n) (given n) low up (given_form n h up))

      given_first : given 0 ≤ left_for 0
      given_first = let e : i ≡ i + 0 = omega arith in let first = subst (λ z. v.level z < length forms) e v.first in omega arith

      given_falls : (n : ℕ) → i + suc n ≤ N → given (suc n) ≤ given n
      given_falls n h = let e : suc (i + n) ≡ i + suc n = omega arith in subst (λ z. v.level z ≤ v.level (i + n)) e (v.falls (i + n) (omega arith) (let long = steps_length c N 0 in omega arith))

      one_more : (n : ℕ) → Before given n → 0 < given n → Before given (suc n)
      one_more n before here j below = elim (dec_le n j) [
        | yes le ↦ (let e : n ≡ j = omega arith in subst (λ z. 0 < given z) e here)
        | no gt ↦ before j (omega arith)
      ]

      -- while the highest c forms levels are above 0, so are the given ones, and no higher
      above_given : (n : ℕ) → i + n ≤ N → Before level_after n → Before given n × (given n ≤ left_for n)
      above_given zero h before = (λ j below. absurd (omega arith), given_first)
      above_given (suc n) h before =
          let rest = above_given n (omega arith) (λ j below. before j (omega arith)) in
          let is = after_is n (λ j below. before j (omega arith)) in
          let here = before n (omega arith) in
          let high = lower_holds c forms (left_for n) (i + n) (rw is at here) in
          let low = given_low n (omega arith) rest.0 rest.1 high.0 in
          let fall = given_falls n h in
          let same = high.1 in
          (one_more n rest.0 low.0, omega arith)

      begins : (n : ℕ) → i + n ≤ N → Before level_after n → level_after n ≡ 0 → form_at c forms 0 (i + n) ≡ true
      begins n h before none = elim (true_or_false (form_at c forms 0 (i + n))) [
        | inl on ↦ on
        | inr off ↦ (
            let rest = above_given n h before in
            let low = given_low n h rest.0 rest.1 off in
            let is = after_is n before in
            let same : lower c forms (left_for n) (i + n) ≡ highest c forms (left_for n) (i + n) = rw off refl in
            let up = low.0 in
            let most = low.1 in
            absurd (omega arith)
            )
      ]

    abbrev level_at : ℕ → ℕ
    level_at x = level_after (x - i)

    pub endless_levels : ((n : ℕ) → i ≤ n → LevelsFrom (beginning c n) forms i) → EndlessLevels c.state forms i
    endless_levels levels = record {
      level = level_at;
      first =
          let v = levels i (omega arith) in
          let some = v.first in
          let down = lower_below c forms (length forms - 1) (i + 0) in
          let e : 0 ≡ i - i = omega arith in
          subst (λ z. level_after z < length forms) e (omega arith);
      falls = λ k from. let e : suc (k - i) ≡ suc k - i = omega arith in subst (λ z. level_after z ≤ level_after (k - i)) e (step_below c forms (level_after (k - i)) (i + suc (k - i)));
      above = λ k from up. let e : i + (k - i) ≡ k = omega arith in subst (λ z. form_at c forms (level_at k) z ≡ true) e (after_holds (k - i) up);
      begin = λ k from none before.
          let e : i + (k - i) ≡ k = omega arith in
          subst (λ z. form_at c forms 0 z ≡ true) e (
          begins k (levels k from) (k - i) (omega arith)
          (λ j below. let there : (i + j) - i ≡ j = omega arith in subst (λ z. 0 < level_after z) there (before (i + j) (omega arith) (omega arith)))
          none
          );
    }

pub waiting : {S : Type 0} (p : S → Bool) (forms : List (S → Bool)) (c : Computation S) → ((n : ℕ) → Waiting p forms (beginning c n)) → WaitingOf p forms c.state
waiting p forms c waits i holds = endless_levels c forms i (λ n from.
    let long = steps_length c n 0 in
    waits n i (omega arith) (subst (λ s. IsTrue (p s)) (sym (state_is c n i from)) holds))

pub waiting_seen : {S : Type 0} (p : S → Bool) (forms : List (S → Bool)) (c : Computation S) → WaitingOf p forms c.state → (n : ℕ) → Waiting p forms (beginning c n)
waiting_seen p forms c waits n i within holds =
    let long = steps_length c n 0 in
    let v = waits i (subst (λ s. IsTrue (p s)) (state_is c n i (omega arith)) holds) in
    record {
      level = v.level;
      first = v.first;
      falls = λ k from below. v.falls k from;
      above = λ k from inside up. subst (λ s. IsTrue (level_form forms (v.level k) s)) (sym (state_is c n k (omega arith))) (v.above k from up);
      begin = λ k from inside none before. subst (λ s. IsTrue (level_form forms 0 s)) (sym (state_is c n k (omega arith))) (v.begin k from none before);
    }
