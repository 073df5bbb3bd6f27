-- The lowest levels of positions, from the last one back.
use Rattle.std.proofs.Common.{◌≡◌, ℕ, zero, suc, ◌-◌, ◌≤◌, ◌<◌, ◌⊎◌, inl, inr, List, [], ◌∷◌, length, map, get_or, Bool, true, false, IsTrue, arith, refl, sym, subst, ap, ◌∙◌}
use Rattle.std.specs.Prelude.{◌==◌, nat_le, if◌then◌else◌}
use Rattle.std.specs.declared.vec.Vec.{Vec}
use Rattle.std.specs.declared.alloc.Global.{Global}
use Rattle.std.proofs.lemmas.Bool.{cases_lt}
use Rattle.std.proofs.lemmas.Bool.Decides.{nat_tests}
use Rattle.std.proofs.lemmas.List.{length-map}
use Rattle.std.proofs.lemmas.Option.{slice_get-get_or, same_Some}
use Rattle.observations.specs.Observation.{Observation, state_at, last}
use Rattle.observations.specs.Goals.{level_form, LevelsFrom, WaitsFrom}
use Rattle.run_judging.specs.Shown.{AreFlags, AreRows}
use Rattle.run_judging.specs.Rows.{flags_at}
use Rattle.run_judging.specs.Judging.{is_level, IsLowest}
use Rattle.basic_laws.proofs.Numbers.{other-test, same-test}

-- the flag of a level stands so far from the end
pub level-at : (row : List Bool) (i level : ℕ) (d : Bool) → i < length row → level ≡ length row - 1 - i → get_or row i d ≡ is_level row level
level-at [] i level d below is = absurd (omega arith)
level-at (f ∷ fs) zero level d below is = sym (rw (same-test level (length fs) (omega arith)) refl)
level-at (f ∷ fs) (suc i) level d below is = level-at fs i level d (omega arith) (omega arith) ∙ sym (rw (other-test level (length fs) (λ e. omega (arith, e))) refl)

pub level-none : (row : List Bool) (level : ℕ) → length row ≤ level → is_level row level ≡ false
level-none [] level h = refl
level-none (f ∷ fs) level h = rw (other-test level (length fs) (λ e. omega (arith, e))) (level-none fs level (omega arith))

pub level-is : {S : Type 0} (forms : List (S → Bool)) (s : S) (level : ℕ) → is_level (map (λ f. f s) forms) level ≡ level_form forms level s
level-is [] s level = refl
level-is (f ∷ fs) s level = rw (length-map fs (λ f. f s)) (ap (λ r. if level == length fs then f s else r) (level-is fs s level))

le-true : (n m : ℕ) → n ≤ m → nat_le n m ≡ true
le-true n m e = grind (arith, nat_tests)

le-false : (n m : ℕ) → m < n → nat_le n m ≡ false
le-false n m e = grind (arith, nat_tests)

-- the lowest level from which there are levels for the positions from k on
pub record LowestFrom {S : Type 0} (o : Observation S) (forms : List (S → Bool)) (k low : ℕ) : Type 0 where
  pub sound : low < length forms → (levels : LevelsFrom o forms k) × (levels.level k ≡ low)
  pub complete : (levels : LevelsFrom o forms k) → low ≤ levels.level k
  pub behind : last o < k → low ≡ 0

pub lowest-none : {S : Type 0} (o : Observation S) (forms : List (S → Bool)) (k : ℕ) → last o < k → LowestFrom o forms k 0
lowest-none o forms k past = record {
  sound = λ some. (
    record {
      level = λ x. 0;
      first = some;
      falls = λ x from below. absurd (omega arith);
      above = λ x from within more. absurd (omega arith);
      begin = λ x from within is first. absurd (omega arith);
    },
    refl,
  );
  complete = λ levels. omega arith;
  behind = λ _. refl;
}

module _ {S : Type 0} (o : Observation S) (forms : List (S → Bool)) (k low after : ℕ) (row : List Bool)
    (within : k ≤ last o)
    (shown : row ≡ map (λ f. f (state_at o k)) forms)
    (is : IsLowest row after low)
    (later : LowestFrom o forms (suc k) after) where
  size : length row ≡ length forms
  size = ap length shown ∙ length-map forms (λ f. f (state_at o k))

  form-of : (level : ℕ) → is_level row level ≡ level_form forms level (state_at o k)
  form-of level = ap (λ r. is_level r level) shown ∙ level-is forms (state_at o k) level

  ended : low ≡ 0 → low < length forms → (levels : LevelsFrom o forms k) × (levels.level k ≡ low)
  ended zero_low some = (
    record {
      level = λ x. 0;
      first = omega arith;
      falls = λ x from below. omega arith;
      above = λ x from inside more. absurd (omega arith);
      begin = λ x from inside none first. elim (cases_lt k x) [
        | inl less ↦ absurd (let no = first k (omega arith) less in omega arith)
        | inr same ↦ (let e : k ≡ x = omega arith in subst (λ y. IsTrue (level_form forms 0 (state_at o y))) e (sym (form-of 0) ∙ (is.begin zero_low).1))
      ];
    },
    sym zero_low,
  )

  -- at k the level is low, and behind it as before
  kept : (0 < low) → low < length forms → (levels : LevelsFrom o forms (suc k)) × (levels.level (suc k) ≡ after) → (levels : LevelsFrom o forms k) × (levels.level k ≡ low)
  kept more some rest = (
    record {
      level = level;
      first = subst (λ v. v < length forms) (sym at_k) some;
      falls = λ x from below. elim (cases_lt k x) [
        | inl less ↦ subst (λ v. level (suc x) ≤ v) (sym (on x less)) (subst (λ v. v ≤ rest.0.level x) (sym (on (suc x) (omega arith))) (rest.0.falls x (omega arith) below))
        | inr same ↦ (let e : k ≡ x = omega arith in subst (λ y. level (suc y) ≤ level y) e (let a = at_k in let b = on (suc k) (omega arith) in let c = rest.1 in let d = (is.above more (omega (arith, size))).1 in omega arith))
      ];
      above = λ x from inside up. elim (cases_lt k x) [
        | inl less ↦ subst (λ v. IsTrue (level_form forms v (state_at o x))) (sym (on x less)) (rest.0.above x (omega arith) inside (let b = on x less in omega arith))
        | inr same ↦ (let e : k ≡ x = omega arith in subst (λ y. IsTrue (level_form forms (level y) (state_at o y))) e (subst (λ v. IsTrue (level_form forms v (state_at o k))) (sym at_k) (sym (form-of low) ∙ (is.above more (omega (arith, size))).0)))
      ];
      begin = λ x from inside none first. elim (cases_lt k x) [
        | inl less ↦ rest.0.begin x (omega arith) inside (let b = on x less in omega arith) (λ y low_y high. let b = on y (omega arith) in let u = first y (omega arith) high in omega arith)
        | inr same ↦ (let e : x ≡ k = omega arith in let z : level k ≡ 0 = subst (λ y. level y ≡ 0) e none in let a = at_k in absurd (omega arith))
      ];
    },
    at_k,
  )
    where
      level : ℕ → ℕ
      level x = if nat_le x k then low else rest.0.level x

      at_k : level k ≡ low
      at_k = rw (le-true k k (omega arith)) refl

      on : (x : ℕ) → k < x → level x ≡ rest.0.level x
      on x less = rw (le-false x k less) refl

  pub lowest-step : LowestFrom o forms k low
  lowest-step = record {
    sound = λ some. elim (cases_lt 0 low) [
      | inl more ↦ kept more some (later.sound (let d = (is.above more (omega (arith, size))).1 in omega arith))
      | inr none ↦ ended (omega arith) some
    ];
    complete = λ levels. complete levels (cases_lt 0 (levels.level k));
    behind = λ past. absurd (omega arith);
  }
    where
      rest : (levels : LevelsFrom o forms k) → 0 < levels.level k → after ≤ levels.level k
      rest levels up = elim (cases_lt k (last o)) [
        | inl less ↦ (
            let down = levels.falls k (omega arith) less in
            let top = levels.first in
            let behind : LevelsFrom o forms (suc k) = record {
              level = levels.level;
              first = omega arith;
              falls = λ x from below. levels.falls x (omega arith) below;
              above = λ x from inside more. levels.above x (omega arith) inside more;
              begin = λ x from inside none first. levels.begin x (omega arith) inside none (λ y low_y high. elim (cases_lt k y) [
                | inl further ↦ first y (omega arith) high
                | inr same ↦ (let e : k ≡ y = omega arith in subst (λ z. 0 < levels.level z) e up)
              ]);
            } in
            let le = later.complete behind in
            omega arith
            )
        | inr past ↦ (let z = later.behind (omega arith) in omega arith)
      ]

      complete : (levels : LevelsFrom o forms k) → (0 < levels.level k) ⊎ (levels.level k ≤ 0) → low ≤ levels.level k
      complete levels (inl up) = is.lowest (levels.level k) (let top = levels.first in omega (arith, size)) (inr (rest levels up)) (form-of (levels.level k) ∙ levels.above k (omega arith) within up)
      complete levels (inr none) = (
          let z : levels.level k ≡ 0 = omega arith in
          let top = levels.first in
          let le = is.lowest 0 (omega (arith, size)) (inl refl) (form-of 0 ∙ levels.begin k (omega arith) within z (λ x from below. absurd (omega arith))) in
          omega arith
          )

-- a position from which there are no levels, and one from which there are
module _ {S : Type 0} (o : Observation S) (p : S → Bool) (forms : List (S → Bool)) (premise : List Bool) (rows : List (Vec Bool Global)) (k low : ℕ) (row : List Bool) (d : Bool)
    (below : k < length rows) (same : length premise ≡ length rows) (read : row ≡ flags_at rows k)
    (ps : AreFlags p o premise) (shown : AreRows forms o rows) (lowest : LowestFrom o forms k low) where
  within-run : k ≤ last o
  within-run = let size = shown.long in omega arith

  long-row : length row ≡ length forms
  long-row = ap length (read ∙ shown.each k within-run) ∙ length-map forms (λ f. f (state_at o k))

  flag-holds : get_or premise k d ≡ p (state_at o k)
  flag-holds = same_Some (get_or premise k d) (p (state_at o k)) (sym (slice_get-get_or premise k d (omega arith)) ∙ ps.each k within-run)

  pub stuck : (get_or premise k d ≡ true) × (length row ≤ low) → WaitsFrom p forms o k → ⊥
  stuck is waits =
      let levels = waits (sym flag-holds ∙ is.0) in
      let le = lowest.complete levels in
      let top = levels.first in
      let high = is.1 in
      omega (arith, long-row)

  pub free : ((get_or premise k d ≡ true) × (length row ≤ low) → ⊥) → WaitsFrom p forms o k
  free not_stuck = λ holds. elim (cases_lt low (length forms)) [
    | inl less ↦ (lowest.sound less).0
    | inr more ↦ absurd (not_stuck (flag-holds ∙ holds, omega (arith, long-row)))
  ]
