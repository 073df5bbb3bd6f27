-- The test for levels finds levels exactly where there are some.
use Rattle.std.proofs.Common.{◌≡◌, ℕ, zero, suc, ◌+◌, ◌-◌, ◌≤◌, ◌<◌, ◌⊎◌, inl, inr, List, [], ◌∷◌, length, Bool, true, false, IsTrue, arith, refl, sym, subst, ap, ◌∙◌}
use Rattle.std.specs.Prelude.{◌&&◌, ◌||◌, ◌==◌, if◌then◌else◌}
use Rattle.std.specs.Bool.{Decides}
use Rattle.std.proofs.lemmas.Bool.{cases_lt}
use Rattle.std.proofs.lemmas.Bool.Decides.{Decides-and, Decides-or, nat_tests}
use Rattle.observations.specs.Observation.{Observation, state_at, last}
use Rattle.observations.specs.Goals.{level_form, LevelsFrom}
use Rattle.judging_laws.specs.Searching.{some_between}
use Rattle.judging_laws.specs.Sentences.{has_levels}
use Rattle.judging_laws.proofs.Searching.{some-between}
use Rattle.basic_laws.proofs.Numbers.{other-test, same-test}

-- what has a formula is a level
level-below : {S : Type 0} (forms : List (S → Bool)) (level : ℕ) (s : S) → level_form forms level s ≡ true → level < length forms
level-below [] level s h = absurd (cc)
level-below (form ∷ forms) level s h = elim (cases_lt level (suc (length forms))) [
  | inl less ↦ less
  | inr more ↦ (
      let rest : level_form forms level s ≡ true = rw (other-test level (length forms) (λ e. omega (arith, e))) at h in
      let less = level-below forms level s rest in
      omega arith
      )
]

module _ {S : Type 0} (o : Observation S) (forms : List (S → Bool)) where
  abbrev form_at : ℕ → ℕ → Bool
  form_at level k = level_form forms level (state_at o k)

  -- the test, one position on
  abbrev Goes : ℕ → ℕ → ℕ → Type 0
  Goes n k top = (form_at 0 k ≡ true) ⊎ ((level : ℕ) × (1 ≤ level) × (level < suc top) × ((form_at level k ≡ true) × (has_levels o forms n (suc k) level ≡ true)))

  goes-decides : (n k top : ℕ) → Decides (has_levels o forms (suc n) k top) (Goes n k top)
  unfolding has_levels
  goes-decides n k top =
      Decides-or (form_at 0 k) (some_between 1 (suc top) (λ level. form_at level k && has_levels o forms n (suc k) level))
      (λ e. e, λ e. e)
      (some-between (λ level. form_at level k && has_levels o forms n (suc k) level) (λ level. (form_at level k ≡ true) × (has_levels o forms n (suc k) level ≡ true)) 1 (suc top)
      (λ level _ _. Decides-and (form_at level k) (has_levels o forms n (suc k) level) (λ e. e, λ e. e) (λ e. e, λ e. e)))

  none-left : (k top : ℕ) → has_levels o forms zero k top ≡ true
  unfolding has_levels
  none-left k top = refl

  ended : (k : ℕ) → 0 < length forms → (k ≤ last o → form_at 0 k ≡ true) → LevelsFrom o forms k
  ended k some here = record {
    level = λ x. 0;
    first = some;
    falls = λ x from below. omega arith;
    above = λ x from within more. absurd (omega arith);
    begin = λ x from within is before. elim (cases_lt k x) [
      | inl less ↦ absurd (let no = before k (omega arith) less in omega arith)
      | inr same ↦ (let e : k ≡ x = omega arith in subst (λ y. IsTrue (form_at 0 y)) e (here (omega arith)))
    ];
  }

  kept : (k level : ℕ) → 0 < level → level < length forms → form_at level k ≡ true → (v : LevelsFrom o forms (suc k)) → v.level (suc k) ≤ level → (w : LevelsFrom o forms k) × (w.level k ≤ level)
  kept k level more less holds v down = (
    record {
      level = now;
      first = subst (λ x. x < length forms) (sym at_k) less;
      falls = λ x from below. elim (cases_lt k x) [
        | inl later ↦ subst (λ y. now (suc x) ≤ y) (sym (on x later)) (subst (λ y. y ≤ v.level x) (sym (on (suc x) (omega arith))) (v.falls x (omega arith) below))
        | inr same ↦ (let e : k ≡ x = omega arith in subst (λ y. now (suc y) ≤ now y) e (let a = at_k in let b = on (suc k) (omega arith) in omega arith))
      ];
      above = λ x from within up. elim (cases_lt k x) [
        | inl later ↦ subst (λ y. IsTrue (form_at y x)) (sym (on x later)) (v.above x (omega arith) within (let b = on x later in omega arith))
        | inr same ↦ (let e : k ≡ x = omega arith in subst (λ y. IsTrue (form_at (now y) y)) e (subst (λ y. IsTrue (form_at y k)) (sym at_k) holds))
      ];
      begin = λ x from within none before. elim (cases_lt k x) [
        | inl later ↦ v.begin x (omega arith) within (let b = on x later in omega arith) (λ y low high. let b = on y (omega arith) in let up = before y (omega arith) high in omega arith)
        | inr same ↦ (let e : x ≡ k = omega arith in let z : now k ≡ 0 = subst (λ y. now y ≡ 0) e none in let a = at_k in absurd (omega arith))
      ];
    },
    (let a = at_k in omega arith),
  )
    where
      now : ℕ → ℕ
      now x = if x == k then level else v.level x

      at_k : now k ≡ level
      at_k = rw (same-test k k refl) refl

      on : (x : ℕ) → k < x → now x ≡ v.level x
      on x later = rw (other-test x k (λ e. omega (arith, e))) refl

  -- levels of the positions from k on, the first of them at most top
  abbrev Found : ℕ → ℕ → Type 0
  Found k top = (v : LevelsFrom o forms k) × (v.level k ≤ top)

  found-here : (n k top : ℕ) → top < length forms → ((level : ℕ) → level < length forms → has_levels o forms n (suc k) level ≡ true → Found (suc k) level) → Goes n k top → Found k top
  unfolding ended
  found-here n k top less more (inl here) = (ended k (omega arith) (λ _. here), omega arith)
  found-here n k top less more (inr found) =
      let low = found.1 in
      let high = found.2 in
      let some = level-below forms found.0 (state_at o k) found.3.0 in
      let rest = more found.0 some found.3.1 in
      let levels = kept k found.0 low some found.3.0 rest.0 rest.1 in
      let down = levels.1 in
      (levels.0, omega arith)

  pub levels-found : (n k top : ℕ) → k + n ≡ suc (last o) → top < length forms → has_levels o forms n k top ≡ true → Found k top
  unfolding ended
  levels-found zero k top is less h = (ended k (omega arith) (λ within. absurd (omega arith)), omega arith)
  levels-found (suc n) k top is less h = found-here n k top less (λ level some more. levels-found n (suc k) level (omega arith) some more) ((goes-decides n k top).0 h)

  -- without formulas no position has a level
  pub no-levels : (n k top : ℕ) → 0 < n → length forms ≤ 0 → has_levels o forms n k top ≡ true → ⊥
  no-levels zero k top some none h = omega arith
  no-levels (suc n) k top some none h = elim ((goes-decides n k top).0 h) [
    | inl here ↦ (let low = level-below forms 0 (state_at o k) here in omega arith)
    | inr found ↦ (let low = level-below forms found.0 (state_at o k) found.3.0 in omega arith)
  ]

  -- levels from the next position on, where there is one
  behind : (k : ℕ) → k < last o → (v : LevelsFrom o forms k) → 0 < v.level k → LevelsFrom o forms (suc k)
  behind k below v up = record {
    level = v.level;
    first = (let fall = v.falls k (omega arith) below in let first = v.first in omega arith);
    falls = λ x from less. v.falls x (omega arith) less;
    above = λ x from within more. v.above x (omega arith) within more;
    begin = λ x from within none before. v.begin x (omega arith) within none (λ y low high. elim (cases_lt k y) [
      | inl further ↦ before y (omega arith) high
      | inr same ↦ (let e : k ≡ y = omega arith in subst (λ z. 0 < v.level z) e up)
    ]);
  }

  tested-here : (n k top : ℕ) → k ≤ last o → (v : LevelsFrom o forms k) → v.level k ≤ top → (0 < v.level k → has_levels o forms n (suc k) (v.level k) ≡ true) → Goes n k top
  tested-here n k top within v down more = elim (cases_lt 0 (v.level k)) [
    | inl up ↦ inr (v.level k, up, omega arith, (v.above k (omega arith) within up, more up))
    | inr none ↦ inl (v.begin k (omega arith) within (omega arith) (λ x from below. absurd (omega arith)))
  ]

  pub levels-tested : (n k top : ℕ) → k + n ≡ suc (last o) → (v : LevelsFrom o forms k) → v.level k ≤ top → has_levels o forms n k top ≡ true
  unfolding behind
  levels-tested zero k top is v down = none-left k top
  levels-tested (suc zero) k top is v down = (goes-decides 0 k top).1 (tested-here 0 k top (omega arith) v down (λ up. none-left (suc k) (v.level k)))
  levels-tested (suc (suc n)) k top is v down =
      (goes-decides (suc n) k top).1 (tested-here (suc n) k top (omega arith) v down (λ up.
      levels-tested (suc n) (suc k) (v.level k) (omega arith) (behind k (omega arith) v up) (v.falls k (omega arith) (omega arith))))
