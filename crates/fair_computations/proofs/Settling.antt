-- Where each search ends, it is settled which names are enabled again and again.
use Rattle.std.proofs.Common.{◌≡◌, ℕ, ◌+◌, ◌-◌, ◌≤◌, ◌⊎◌, inl, inr, Bool, true, false, arith, refl, subst}
use Rattle.std.specs.Prelude.{slice_get, ◌==◌, if◌then◌else◌}
use Rattle.basic_laws.proofs.Numbers.{same-test, test_same}
use Rattle.std.specs.declared.option.Option.{Option}
use Rattle.std.specs.declared.option.Option.TheVariants.{Some, None}
use Rattle.observations.specs.Observation.{IsJust, IsCompassionate}
use Rattle.fair_computations.specs.Computations.{Computation, EnabledAt, TakenAt}
use Rattle.fair_computations.specs.Fair.{AgainAndAgain, FromSomeOn, AlwaysEventually, GetsJustice, GetsCompassion, IsSettled, SearchesEnd, IsFair, IsFairClassically}

module _ (ends : SearchesEnd) (test : ℕ → Bool) where
  abbrev Here : ℕ → Type 0
  Here k = ((n : ℕ) × (test (k + n) ≡ true)) ⊎ ((n : ℕ) → test (k + n) ≡ false)

  here : (k : ℕ) → Here k
  here k = ends (λ n. test (k + n))

  abbrev is_none : (k : ℕ) → Here k → Bool
  is_none k (inl found) = false
  is_none k (inr none) = true

  none_is : (k : ℕ) (h : Here k) → is_none k h ≡ true → (m : ℕ) → k ≤ m → test m ≡ false
  none_is k (inl found) e m from = cc
  none_is k (inr none) e m from = let place : k + (m - k) ≡ m = omega arith in subst (λ z. test z ≡ false) place (none (m - k))

  some_is : (k : ℕ) (h : Here k) → is_none k h ≡ false → (m : ℕ) × (k ≤ m) × (test m ≡ true)
  some_is k (inl found) e = (k + found.0, omega arith, found.1)
  some_is k (inr none) e = cc

  pub again_or_none : AgainAndAgain (λ k. test k ≡ true) ⊎ FromSomeOn (λ k. test k ≡ false)
  again_or_none = elim (ends (λ k. is_none k (here k))) [
    | inl found ↦ inr (found.0, none_is found.0 (here found.0) found.1)
    | inr all ↦ inl (λ k. some_is k (here k) (all k))
  ]

-- whether a flag is set, of a name whose flag may be missing
abbrev pub is_on : Option Bool → Bool
is_on None = false
is_on (Some b) = b

pub on_true : (o : Option Bool) → is_on o ≡ true → o ≡ Some true
on_true None e = cc
on_true (Some true) e = refl
on_true (Some false) e = cc

pub on_false : (o : Option Bool) → is_on o ≡ false → o ≡ Some true → ⊥
on_false None e h = cc
on_false (Some true) e h = cc
on_false (Some false) e h = cc

pub searches_settle : {S : Type 0} (c : Computation S) → SearchesEnd → IsSettled c
searches_settle c ends name is = elim (again_or_none ends (λ k. is_on (slice_get (c.enabled k) name))) [
  | inl again ↦ inl (λ k. let found = again k in (found.0, found.1, on_true (slice_get (c.enabled found.0) name) found.2))
  | inr none ↦ inr (none.0, λ m from. on_false (slice_get (c.enabled m) name) (none.1 m from))
]

-- what is always eventually so is so again and again
again_where : (ends : SearchesEnd) (test : ℕ → Bool) → AlwaysEventually (λ k. test k ≡ true) → AgainAndAgain (λ k. test k ≡ true)
again_where ends test always = elim (again_or_none ends test) [
  | inl again ↦ again
  | inr none ↦ absurd (always none.0 (λ m from on. clash (test m) (none.1 m from) on))
]
  where
    clash : (b : Bool) → b ≡ false → b ≡ true → ⊥
    clash b e f = cc

module _ {S : Type 0} (c : Computation S) (ends : SearchesEnd) (fair : IsFairClassically c) where
  abbrev on : ℕ → ℕ → Bool
  on name k = is_on (slice_get (c.enabled k) name)

  -- the name is taken or disabled
  abbrev either : ℕ → ℕ → Bool
  either name k = if on name k then c.name k == name else true

  either_true : (name k : ℕ) (b : Bool) → on name k ≡ b → (if b then c.name k == name else true) ≡ true → TakenAt c name k ⊎ ¬ (EnabledAt c name k)
  either_true name k true e t = inl (test_same (c.name k) name t)
  either_true name k false e t = inr (on_false (slice_get (c.enabled k) name) e)

  true_either : (name k : ℕ) (b : Bool) → on name k ≡ b → TakenAt c name k ⊎ ¬ (EnabledAt c name k) → (if b then c.name k == name else true) ≡ true
  true_either name k true e (inl taken) = same-test (c.name k) name taken
  true_either name k true e (inr off) = absurd (off (on_true (slice_get (c.enabled k) name) e))
  true_either name k false e h = refl

  justice : (name : ℕ) → IsJust c.fairness name → GetsJustice (TakenAt c name) (EnabledAt c name)
  justice name is k =
      let again = again_where ends (either name) (λ j never. fair.just name is j (λ m from h. never m from (true_either name m (on name m) refl h))) k in
      (again.0, again.1, either_true name again.0 (on name again.0) refl again.2)

  compassion : (name : ℕ) → IsCompassionate c.fairness name → GetsCompassion (TakenAt c name) (EnabledAt c name)
  compassion name is = elim (searches_settle c ends name is) [
    | inr none ↦ inr none
    | inl again ↦ inl (λ k.
        let found = again_where ends (λ k. c.name k == name)
        (λ j never. fair.compassionate name is (λ i none. let at = again i in none at.0 at.1 at.2) j (λ m from taken. never m from (same-test (c.name m) name taken))) k in
        (found.0, found.1, test_same (c.name found.0) name found.2))
  ]

  pub known : IsFair c
  known = record { just = justice; compassionate = compassion }
