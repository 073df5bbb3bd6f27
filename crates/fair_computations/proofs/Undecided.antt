-- Could it be told from rounds alone which case of compassion is there, each test would be told to be true again and again
-- or at last never.
use Rattle.std.proofs.Common.{◌≡◌, ℕ, zero, suc, ◌≤◌, ◌⊎◌, inl, inr, [], ◌∷◌, Bool, true, false, arith, refl, sym, subst, ap}
use Rattle.std.specs.Prelude.{slice_get, if◌then◌else◌}
use native.Mathlib.Decide.{dec_le}
use Rattle.std.specs.declared.option.Option.TheVariants.{Some}
use Rattle.std.proofs.lemmas.Option.{same_Some}
use Rattle.observations.specs.declared.Fairness.TheVariants.{Just, Compassionate}
use Rattle.observations.specs.Observation.{IsJust, IsCompassionate}
use Rattle.observations.proofs.Queue.{true_or_false}
use Rattle.fair_computations.specs.Computations.{Computation, EnabledAt, TakenAt}
use Rattle.fair_computations.specs.Fair.{AgainAndAgain, FromSomeOn, IsFair}
use Rattle.fair_computations.specs.Endless.{EndlessRounds, RoundsBegin}
use Rattle.fair_computations.proofs.Beginnings.{Pays, seen_round}
use Rattle.fair_computations.proofs.Endless.{endless}

module _ (test : ℕ → Bool) where
  abbrev name_by : Bool → ℕ
  name_by b = if b then 0 else 1

  -- the one name is enabled where the test is true, and then it is taken
  abbrev tested : Computation Bool
  tested = record { fairness = Compassionate ∷ []; state = λ k. true; enabled = λ k. test k ∷ []; name = λ k. name_by (test k) }

  only_name : (name : ℕ) → IsCompassionate tested.fairness name → name ≡ 0
  only_name zero is = refl
  only_name (suc name) is = absurd (none name is)
    where
      none : (name : ℕ) → slice_get [] name ≡ Some Compassionate → ⊥
      none name e = cc

  only_just : (name : ℕ) → IsJust tested.fairness name → name ≡ 0
  only_just zero is = refl
  only_just (suc name) (inl is) = absurd (none name is)
    where
      none : (name : ℕ) → slice_get [] name ≡ Some Just → ⊥
      none name e = cc
  only_just (suc name) (inr is) = only_name (suc name) is

  taken : (k : ℕ) → test k ≡ true → TakenAt tested 0 k
  taken k e = rw e refl

  taken_true : (b : Bool) → name_by b ≡ 0 → b ≡ true
  taken_true true e = refl
  taken_true false e = cc

  off : (k : ℕ) → test k ≡ false → ¬ (EnabledAt tested 0 k)
  off k e on = (let same = same_Some (test k) true on in cc)

  by_taking : (k m : ℕ) → k ≤ m → test m ≡ true → Pays tested k (suc m)
  by_taking k m h e = record {
    ahead = omega arith;
    just = λ name is. inl (m, h, omega arith, subst (λ x. TakenAt tested x m) (sym (only_just name is)) (taken m e));
    compassionate = λ name is. inl (m, h, omega arith, subst (λ x. TakenAt tested x m) (sym (only_name name is)) (taken m e));
  }

  off_both : (k m : ℕ) → test k ≡ false → test (suc k) ≡ false → k ≤ m → m ≤ suc k → ¬ (EnabledAt tested 0 m)
  off_both k m e f from to = elim (dec_le m k) [
    | yes le ↦ (let same : k ≡ m = omega arith in subst (λ z. ¬ (EnabledAt tested 0 z)) same (off k e))
    | no gt ↦ (let same : suc k ≡ m = omega arith in subst (λ z. ¬ (EnabledAt tested 0 z)) same (off (suc k) f))
  ]

  by_resting : (k : ℕ) → test k ≡ false → test (suc k) ≡ false → Pays tested k (suc k)
  by_resting k e f = record {
    ahead = omega arith;
    just = λ name is. inr (k, omega arith, omega arith, subst (λ x. ¬ (EnabledAt tested x k)) (sym (only_just name is)) (off k e));
    compassionate = λ name is. inr (λ m from to. subst (λ x. ¬ (EnabledAt tested x m)) (sym (only_name name is)) (off_both k m e f from to));
  }

  one : (k : ℕ) → (l : ℕ) × Pays tested k l
  one k = elim (true_or_false (test k)) [
    | inl on ↦ (suc k, by_taking k k (omega arith) on)
    | inr e ↦ elim (true_or_false (test (suc k))) [
      | inl on ↦ (suc (suc k), by_taking k (suc k) (omega arith) on)
      | inr f ↦ (suc k, by_resting k e f)
    ]
  ]

  begin : RoundsBegin tested 0
  begin k high = let found = one k in (found.0, seen_round tested found.0 k found.0 (omega arith) found.1)

  pub told : ((c : Computation Bool) → EndlessRounds c → IsFair c) → AgainAndAgain (λ k. test k ≡ true) ⊎ FromSomeOn (λ k. test k ≡ false)
  told tells = elim ((tells tested (endless tested 0 begin 0 (omega arith)).0).compassionate 0 refl) [
    | inl again ↦ inl (λ k. let found = again k in (found.0, found.1, taken_true (test found.0) found.2))
    | inr never ↦ inr (never.0, λ m from. at_last (test m) (λ e. never.1 m from (ap Some e)))
  ]
    where
      at_last : (b : Bool) → (b ≡ true → ⊥) → b ≡ false
      at_last true none = absurd (none refl)
      at_last false none = refl
