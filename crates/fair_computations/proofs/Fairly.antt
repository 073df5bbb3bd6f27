-- The readings of fairness, and the goals on fair computations.
use Rattle.std.proofs.Common.{◌≡◌, ℕ, ◌+◌, ◌≤◌, ◌⊎◌, inl, inr, Bool, IsTrue, arith, refl, sym, subst}
use Rattle.std.specs.Prelude.{ℤ}
use Rattle.observations.specs.Observation.{IsJust, IsCompassionate}
use Rattle.observations.specs.Goals.{Invariance, Response}
use Rattle.fair_computations.specs.Computations.{Computation, EnabledAt, TakenAt, beginning}
use Rattle.fair_computations.specs.Fair.{GetsJusticeClassically, GetsCompassionClassically, IsFair, IsFairByTheBooks, IsFairClassically, IsSettled}
use Rattle.fair_computations.specs.Endless.{RoundsBegin, RoundsBeginAtLast}
use Rattle.fair_computations.specs.Goals.{TrueAt, InvarianceOf, ResponseOf, EventuallyResponds}
use Rattle.fair_computations.proofs.Beginnings.{Pays, steps_length, state_is, seen_round, round_pays}
use Rattle.fair_computations.proofs.Eventually.{Some, some, some_bind, from_eventually, to_eventually, compassion}
use Rattle.fair_computations.proofs.Coming as Coming
use Rattle.fair_computations.proofs.Naming.{Naming, renamed}

module _ {S : Type 0} (c : Computation S) where
  pub words : IsFair c → IsFairByTheBooks c
  words fair = record {
    just = fair.just;
    compassionate = λ name is again. elim (fair.compassionate name is) [
      | inl taken ↦ taken
      | inr never ↦ absurd (let on = again never.0 in never.1 on.0 on.1 on.2)
    ];
  }

  pub settled : IsSettled c → IsFairByTheBooks c → IsFair c
  settled known fair = record {
    just = fair.just;
    compassionate = λ name is. elim (known name is) [
      | inl again ↦ inl (fair.compassionate name is again)
      | inr never ↦ inr never
    ];
  }

  -- each step has its own name, and no other
  own : Naming c (TakenAt c)
  own = record { name = c.name; may = λ k. refl }

  its_own : (v : Naming c (TakenAt c)) → renamed c (TakenAt c) v ≡ c
  its_own v = λ i. record { fairness = c.fairness; state = c.state; enabled = c.enabled; name = λ k. sym (v.may k) i }

  -- from a fair computation on: a round begins at each position
  pub begin : IsFair c → (K : ℕ) × RoundsBegin c K
  begin fair =
      let found = Coming.all_settled c (TakenAt c) (λ A. A) (λ A a. a) (λ A B a f. f a) fair.compassionate in (
        found.0,
        λ k high.
            let one = Coming.round_comes c (TakenAt c) (λ A. A) (λ A a. a) (λ A B a f. f a) own found.0 k high fair.just found.1 in
            (one.bound, seen_round c one.bound k one.bound (omega arith) (subst (λ d. Pays d k one.bound) (its_own one.naming) one.pays)),
      )

  pub invariance : (p : S → Bool) → ((n : ℕ) → Invariance p (beginning c n)) → InvarianceOf p c.state
  invariance p holds i = subst (λ s. IsTrue (p s)) (state_is c i i (omega arith)) (holds i i (let long = steps_length c i 0 in omega arith))

  pub response : (p q : S → Bool) (e : S → ℤ) → ((n : ℕ) → Response p q e (beginning c n)) → IsFair c → ResponseOf p q c.state
  response p q e responds fair = Coming.comes c (TakenAt c) (λ A. A) (λ A a. a) (λ A B a f. f a) p q e (λ v n. subst (λ d. Response p q e (beginning d n)) (sym (its_own v)) (responds n)) own fair.just fair.compassionate

  justice : IsFairClassically c → (name : ℕ) → IsJust c.fairness name → (k : ℕ) → Some ((m : ℕ) × (k ≤ m) × (TakenAt c name m ⊎ ¬ (EnabledAt c name m)))
  justice fair name is k = from_eventually (λ m. TakenAt c name m ⊎ ¬ (EnabledAt c name m)) k (fair.just name is k)

  pub eventually : (p q : S → Bool) (e : S → ℤ) → ((n : ℕ) → Response p q e (beginning c n)) → IsFairClassically c → EventuallyResponds p q c.state
  eventually p q e responds fair i holds = to_eventually (TrueAt q c.state) i (Coming.comes c (TakenAt c) Some some some_bind p q e (λ v n. subst (λ d. Response p q e (beginning d n)) (sym (its_own v)) (responds n)) own (justice fair) (λ name is. compassion (TakenAt c name) (EnabledAt c name) (fair.compassionate name is)) i holds)

  -- a round begins at each position from some on, exactly where the computation is fair
  pub begin_at_last : IsFairClassically c → RoundsBeginAtLast c
  begin_at_last fair none =
      Coming.all_settled c (TakenAt c) Some some some_bind (λ name is. compassion (TakenAt c name) (EnabledAt c name) (fair.compassionate name is)) (λ found.
      none found.0 (λ k high no_round.
      Coming.round_comes c (TakenAt c) Some some some_bind own found.0 k high (justice fair) found.1 (λ one.
      no_round one.bound (seen_round c one.bound k one.bound (omega arith) (subst (λ d. Pays d k one.bound) (its_own one.naming) one.pays)))))

  just_at_last : RoundsBeginAtLast c → (name : ℕ) → IsJust c.fairness name → GetsJusticeClassically (TakenAt c name) (EnabledAt c name)
  just_at_last rounds name is k never =
      rounds (λ K begins. begins (k + K) (omega arith) (λ l round.
      elim ((round_pays c l (k + K) l round).just name is) [
        | inl t ↦ never t.0 (let from = t.1 in omega arith) (inl t.3)
        | inr d ↦ never d.0 (let from = d.1 in omega arith) (inr d.3)
      ]))

  compassionate_at_last : RoundsBeginAtLast c → (name : ℕ) → IsCompassionate c.fairness name → GetsCompassionClassically (TakenAt c name) (EnabledAt c name)
  compassionate_at_last rounds name is again k never =
      rounds (λ K begins. again (k + K) (λ j high on. begins j (omega arith) (λ l round.
      let pays = round_pays c l j l round in
      elim (pays.compassionate name is) [
        | inl t ↦ never t.0 (let from = t.1 in omega arith) t.3
        | inr off ↦ off j (omega arith) (let a = pays.ahead in omega arith) on
      ])))

  pub fair_at_last : RoundsBeginAtLast c → IsFairClassically c
  fair_at_last rounds = record { just = just_at_last rounds; compassionate = compassionate_at_last rounds }

  pub classically : IsFair c → IsFairClassically c
  classically fair = record {
    just = λ name is k never. let found = fair.just name is k in never found.0 found.1 found.2;
    compassionate = λ name is. elim (fair.compassionate name is) [
      | inl taken ↦ λ again k never. let found = taken k in never found.0 found.1 found.2
      | inr off ↦ λ again k never. again off.0 off.1
    ];
  }

  pub invariance_seen : (p : S → Bool) → InvarianceOf p c.state → (n : ℕ) → Invariance p (beginning c n)
  invariance_seen p holds n i within = subst (λ s. IsTrue (p s)) (sym (state_is c n i (let long = steps_length c n 0 in omega arith))) (holds i)
