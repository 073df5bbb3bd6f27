-- Rounds come on a fair computation, and with them what is reached within rounds.
--
-- "There is" is read in some way M: as it stands, or as "it is not so that there is not". And a step may be one of several
-- names: the names of the steps are chosen round by round, each behind all that were needed before. Where each step has its
-- one name, nothing is left to choose.
use Rattle.std.proofs.Common.{◌≡◌, ℕ, zero, suc, ◌+◌, ◌≤◌, ◌<◌, ◌⊎◌, inl, inr, length, Bool, IsTrue, arith, refl, sym, subst}
use Rattle.std.specs.Prelude.{slice_get, ℤ}
use Rattle.std.specs.declared.option.Option.{Option}
use Rattle.std.specs.declared.option.Option.TheVariants.{Some, None}
use Rattle.std.proofs.lemmas.Option.{slice_get_within}
use Rattle.observations.specs.declared.Fairness.{Fairness}
use Rattle.observations.specs.declared.Fairness.TheVariants.{Unfair, Just, Compassionate}
use Rattle.observations.specs.Observation.{state_at, IsJust, IsCompassionate}
use Rattle.observations.specs.Rounds.{Rounds}
use Rattle.observations.specs.Goals.{HoldsAt, at_least_zero, Response}
use Rattle.fair_computations.specs.Computations.{Computation, EnabledAt, beginning}
use Rattle.fair_computations.specs.Fair.{FromSomeOn}
use Rattle.fair_computations.specs.Goals.{TrueAt}
use Rattle.fair_computations.proofs.Beginnings.{PaysOften, steps_length, state_is, seen_rounds, often_up}
use Rattle.fair_computations.proofs.Naming.{Naming, renamed, Never, MayOrNot, agree_trans}
use Rattle.fair_computations.proofs.Paying.{below_or_same, IsPaidFrom, take_one, leave_one, all_paid, IsRoundFrom, same_pays, AreRoundsFrom}

-- a name of the list is just alone, or compassionate, or neither
data Kind (f : Option Fairness) : Type 0 where
  OnlyJust : f ≡ Some Just → Kind f
  Comp : f ≡ Some Compassionate → Kind f
  Neither : (f ≡ Some Just → ⊥) → (f ≡ Some Compassionate → ⊥) → Kind f

kind : (f : Option Fairness) → Kind f
kind None = Neither (λ e. cc) (λ e. cc)
kind (Some Unfair) = Neither (λ e. cc) (λ e. cc)
kind (Some Just) = OnlyJust refl
kind (Some Compassionate) = Comp refl

different : (f : Option Fairness) → f ≡ Some Just → f ≡ Some Compassionate → ⊥
different f a b = cc

-- the step from position k may be one of the name: May name k
module _ {S : Type 0} (c : Computation S) (May : ℕ → ℕ → Type 0) where
  module _ (M : Type 0 → Type 0) (pure : (A : Type 0) → A → M A) (bind : (A B : Type 0) → M A → (A → M B) → M B) where
    -- again and again, in the reading
    abbrev pub Again : (ℕ → Type 0) → Type 0
    Again P = (k : ℕ) → M ((m : ℕ) × (k ≤ m) × P m)

    abbrev pub IsPaidJustice : Type 0
    IsPaidJustice = (name : ℕ) → IsJust c.fairness name → Again (MayOrNot c May name)

    abbrev pub IsPaidCompassion : Type 0
    IsPaidCompassion = (name : ℕ) → IsCompassionate c.fairness name → M (Again (May name) ⊎ FromSomeOn (λ m. ¬ (EnabledAt c name m)))

    -- each compassionate name below n is one of a step again and again, or never enabled from K on
    abbrev pub Settled : ℕ → ℕ → Type 0
    Settled n K = (name : ℕ) → name < n → IsCompassionate c.fairness name → Again (May name) ⊎ Never c May name K

    later : (n K L : ℕ) → K ≤ L → Settled n K → Settled n L
    later n K L h settled name below is = elim (settled name below is) [
      | inl may ↦ inl may
      | inr never ↦ inr (λ m from. never m (omega arith))
    ]

    one_settled : (n K : ℕ) → Settled n K → (IsCompassionate c.fairness n → Again (May n) ⊎ Never c May n K) → Settled (suc n) K
    one_settled n K settled here name below is = elim (below_or_same name n below) [
      | inl less ↦ settled name less is
      | inr same ↦ subst (λ x. Again (May x) ⊎ Never c May x K) same (here (subst (λ x. IsCompassionate c.fairness x) (sym same) is))
    ]

    -- a position from which on all is settled for the names below n
    abbrev IsSettledBelow : ℕ → Type 0
    IsSettledBelow n = (K : ℕ) × Settled n K

    settle_one : (n : ℕ) → IsPaidCompassion → IsSettledBelow n → Kind (slice_get c.fairness n) → M (IsSettledBelow (suc n))
    settle_one n compassion found (OnlyJust is) = pure (IsSettledBelow (suc n)) (found.0, one_settled n found.0 found.1 (λ e. absurd (different (slice_get c.fairness n) is e)))
    settle_one n compassion found (Neither unjust none) = pure (IsSettledBelow (suc n)) (found.0, one_settled n found.0 found.1 (λ e. absurd (none e)))
    settle_one n compassion found (Comp is) =
        bind (Again (May n) ⊎ FromSomeOn (λ m. ¬ (EnabledAt c n m))) (IsSettledBelow (suc n)) (compassion n is) (λ which. elim which [
          | inl may ↦ pure (IsSettledBelow (suc n)) (found.0, one_settled n found.0 found.1 (λ e. inl may))
          | inr never ↦ pure (IsSettledBelow (suc n)) (
            found.0 + never.0,
            one_settled n (found.0 + never.0) (later n found.0 (found.0 + never.0) (omega arith) found.1) (λ e. inr (λ m from. never.1 m (omega arith))),
          )
        ])

    settle : (n : ℕ) → IsPaidCompassion → M (IsSettledBelow n)
    settle zero compassion = pure (IsSettledBelow zero) (0, λ name below is. absurd (omega arith))
    settle (suc n) compassion = bind (IsSettledBelow n) (IsSettledBelow (suc n)) (settle n compassion) (λ found. settle_one n compassion found (kind (slice_get c.fairness n)))

    pub all_settled : IsPaidCompassion → M ((K : ℕ) × Settled (length c.fairness) K)
    all_settled compassion = settle (length c.fairness) compassion

    pay_one : (v : Naming c May) (K n k : ℕ) → K ≤ k → IsPaidJustice → Settled (length c.fairness) K → IsPaidFrom c May v K n k → Kind (slice_get c.fairness n) → M (IsPaidFrom c May v K (suc n) k)
    pay_one v K n k high justice settled found (Neither unjust none) = pure (IsPaidFrom c May v K (suc n) k) (
        leave_one c May v K n k found found.bound (omega arith) (λ is. absurd (elim is [ inl j ↦ unjust j | inr f ↦ none f ])) (λ is. absurd (none is))
        )
    pay_one v K n k high justice settled found (OnlyJust is) =
        bind ((m : ℕ) × (found.bound ≤ m) × MayOrNot c May n m) (IsPaidFrom c May v K (suc n) k) (justice n (inl is) found.bound) (λ at. pure (IsPaidFrom c May v K (suc n) k) (elim at.2 [
          | inl may ↦ take_one c May v K n k found at.0 at.1 may
          | inr off ↦ leave_one c May v K n k found at.0 at.1 (λ j. (at.0, (let h = at.1 in let ahead = found.paid.ahead in omega arith), omega arith, off)) (λ e. absurd (different (slice_get c.fairness n) is e))
        ]))
    pay_one v K n k high justice settled found (Comp is) = elim (settled n (slice_get_within c.fairness n Compassionate is) is) [
      | inl again ↦ bind ((m : ℕ) × (found.bound ≤ m) × May n m) (IsPaidFrom c May v K (suc n) k) (again found.bound) (λ at. pure (IsPaidFrom c May v K (suc n) k) (take_one c May v K n k found at.0 at.1 at.2))
      | inr never ↦ pure (IsPaidFrom c May v K (suc n) k) (leave_one c May v K n k found found.bound (omega arith) (λ j. (k, omega arith, (let a = found.paid.ahead in omega arith), never k high)) (λ e. never))
    ]

    pay : (v : Naming c May) (K n k : ℕ) → K ≤ k → IsPaidJustice → Settled (length c.fairness) K → M (IsPaidFrom c May v K n k)
    pay v K zero k high justice settled = pure (IsPaidFrom c May v K zero k) (record {
      naming = v;
      agrees = λ j below. refl;
      bound = suc k;
      paid = record { ahead = omega arith; just = λ name below is. absurd (omega arith); compassionate = λ name below is. absurd (omega arith) };
    })
    pay v K (suc n) k high justice settled = bind (IsPaidFrom c May v K n k) (IsPaidFrom c May v K (suc n) k) (pay v K n k high justice settled) (λ paid. pay_one v K n k high justice settled paid (kind (slice_get c.fairness n)))

    pub round_comes : (v : Naming c May) (K k : ℕ) → K ≤ k → IsPaidJustice → Settled (length c.fairness) K → M (IsRoundFrom c May v k)
    round_comes v K k high justice settled = bind (IsPaidFrom c May v K (length c.fairness) k) (IsRoundFrom c May v k) (pay v K (length c.fairness) k high justice settled) (λ found.
        pure (IsRoundFrom c May v k) (record { naming = found.naming; agrees = found.agrees; bound = found.bound; pays = all_paid c May found.naming K k found.bound high found.paid }))

    pub rounds_come : (n : ℕ) (v : Naming c May) (K k : ℕ) → K ≤ k → ((w : Naming c May) (k : ℕ) → K ≤ k → M (IsRoundFrom c May w k)) → M (AreRoundsFrom c May v n k)
    rounds_come zero v K k high one = pure (AreRoundsFrom c May v zero k) (record { naming = v; agrees = λ j below. refl; bound = k; often = refl })
    rounds_come (suc n) v K k high one =
        bind (IsRoundFrom c May v k) (AreRoundsFrom c May v (suc n) k) (one v k high) (λ first.
        bind (AreRoundsFrom c May first.naming n first.bound) (AreRoundsFrom c May v (suc n) k) (rounds_come n first.naming K first.bound (let a = first.pays.ahead in omega arith) one) (λ rest.
        pure (AreRoundsFrom c May v (suc n) k) (record {
          naming = rest.naming;
          agrees = agree_trans c May v first.naming rest.naming k first.bound (let a = first.pays.ahead in omega arith) first.agrees rest.agrees;
          bound = rest.bound;
          often = (first.bound, same_pays c May first.naming rest.naming k first.bound rest.agrees first.pays, rest.often);
        })))

    -- a response within rounds comes where the rounds do
    module _ (p q : S → Bool) (e : S → ℤ) (responds : (v : Naming c May) (n : ℕ) → Response p q e (beginning (renamed c May v) n)) where
      abbrev pub Comes : ℕ → Type 0
      Comes i = (m : ℕ) × (i ≤ m) × TrueAt q c.state m

      reached : (v : Naming c May) (i k l : ℕ) → TrueAt p c.state i → i ≤ k → PaysOften (renamed c May v) (at_least_zero (e (c.state i))) k l → Comes i
      reached v i k l holds from often =
          let d = renamed c May v in
          let up = often_up d (at_least_zero (e (c.state i))) k l often in
          let long = steps_length d l 0 in
          let same : state_at (beginning d l) i ≡ c.state i = state_is d l i (omega arith) in
          let there : HoldsAt p (beginning d l) i = subst (λ s. IsTrue (p s)) (sym same) holds in
          let rounds : Rounds (beginning d l) (at_least_zero (e (state_at (beginning d l) i))) k l =
          subst (λ s. Rounds (beginning d l) (at_least_zero (e s)) k l) (sym same) (seen_rounds d l (at_least_zero (e (c.state i))) k l (omega arith) often) in
          let found = responds v l i (omega arith) there k l from (omega arith) rounds in
          let before = found.2 in
          (found.0, found.1, subst (λ s. IsTrue (q s)) (state_is d l found.0 (omega arith)) found.3)

      pub comes : Naming c May → IsPaidJustice → IsPaidCompassion → (i : ℕ) → TrueAt p c.state i → M (Comes i)
      comes v justice compassion i holds =
          bind ((K : ℕ) × Settled (length c.fairness) K) (Comes i) (all_settled compassion) (λ settled.
          bind (AreRoundsFrom c May v (at_least_zero (e (c.state i))) (i + settled.0)) (Comes i)
          (rounds_come (at_least_zero (e (c.state i))) v settled.0 (i + settled.0) (omega arith) (λ w k high. round_comes w settled.0 k high justice settled.1))
          (λ found. pure (Comes i) (reached found.naming i (i + settled.0) found.bound holds (omega arith) found.often)))
