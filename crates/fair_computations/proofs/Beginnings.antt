-- What is seen of a beginning is what is seen of the computation, and rounds of the one are rounds of the other.
use Rattle.std.proofs.Common.{◌≡◌, ℕ, zero, suc, ◌+◌, ◌≤◌, ◌<◌, ◌⊎◌, inl, inr, length, true, arith, refl, sym, subst, ap, ◌∙◌}
use Rattle.std.specs.Prelude.{slice_get}
use Rattle.std.specs.declared.option.Option.TheVariants.{Some}
use Rattle.std.proofs.lemmas.Option.{same_Some}
use Rattle.observations.specs.Observation.{moment_after, name_at, state_at, IsEnabled, IsTaken, IsJust, IsCompassionate}
use Rattle.observations.specs.Rounds.{Round, Rounds}
use Rattle.observations.proofs.Positions.{named_below}
use Rattle.fair_computations.specs.Computations.{Computation, EnabledAt, TakenAt, seen_at, steps_from, beginning}

module _ {S : Type 0} (c : Computation S) where
  pub steps_length : (n k : ℕ) → length (steps_from c k n) ≡ n
  steps_length zero k = refl
  steps_length (suc n) k = ap suc (steps_length n (suc k))

  moment_from : (n m k : ℕ) → m ≤ n → moment_after (seen_at c k) (steps_from c k n) m ≡ seen_at c (k + m)
  moment_from zero m k h = ap (seen_at c) (let e : k ≡ k + m = omega arith in e)
  moment_from (suc n) zero k h = ap (seen_at c) (let e : k ≡ k + 0 = omega arith in e)
  moment_from (suc n) (suc m) k h = moment_from n m (suc k) (omega arith) ∙ ap (seen_at c) (let e : suc k + m ≡ k + suc m = omega arith in e)

  name_from : (n m k : ℕ) → m < n → name_at (steps_from c k n) m ≡ Some (c.name (k + m))
  name_from zero m k h = absurd (omega arith)
  name_from (suc n) zero k h = ap (λ x. Some (c.name x)) (let e : k ≡ k + 0 = omega arith in e)
  name_from (suc n) (suc m) k h = name_from n m (suc k) (omega arith) ∙ ap (λ x. Some (c.name x)) (let e : suc k + m ≡ k + suc m = omega arith in e)

  pub moment_is : (n m : ℕ) → m ≤ n → moment_after (seen_at c 0) (steps_from c 0 n) m ≡ seen_at c m
  moment_is n m h = moment_from n m 0 h ∙ ap (seen_at c) (let e : 0 + m ≡ m = omega arith in e)

  pub state_is : (n m : ℕ) → m ≤ n → state_at (beginning c n) m ≡ c.state m
  state_is n m h = ap (λ z. z.state) (moment_is n m h)

  name_is : (n m : ℕ) → m < n → name_at (steps_from c 0 n) m ≡ Some (c.name m)
  name_is n m h = name_from n m 0 h ∙ ap (λ x. Some (c.name x)) (let e : 0 + m ≡ m = omega arith in e)

  pub enabled_seen : (n m name : ℕ) → m ≤ n → EnabledAt c name m → IsEnabled (beginning c n) name m
  enabled_seen n m name h e = subst (λ z. slice_get z.enabled name ≡ Some true) (sym (moment_is n m h)) e

  pub enabled_there : (n m name : ℕ) → m ≤ n → IsEnabled (beginning c n) name m → EnabledAt c name m
  enabled_there n m name h e = subst (λ z. slice_get z.enabled name ≡ Some true) (moment_is n m h) e

  pub taken_seen : (n m name : ℕ) → m < n → TakenAt c name m → IsTaken (beginning c n) name m
  taken_seen n m name h e = name_is n m h ∙ ap Some e

  pub taken_there : (n m name : ℕ) → IsTaken (beginning c n) name m → TakenAt c name m
  taken_there n m name e =
      let below = named_below (steps_from c 0 n) m name e in
      let long = steps_length n 0 in
      same_Some (c.name m) name (sym (name_is n m (omega arith)) ∙ e)

  -- the steps from k to l are a round of the computation
  abbrev pub TakenIn : ℕ → ℕ → ℕ → Type 0
  TakenIn name k l = (m : ℕ) × (k ≤ m) × (m < l) × TakenAt c name m

  abbrev pub DisabledIn : ℕ → ℕ → ℕ → Type 0
  DisabledIn name k l = (m : ℕ) × (k ≤ m) × (m ≤ l) × ¬ (EnabledAt c name m)

  abbrev pub NeverIn : ℕ → ℕ → ℕ → Type 0
  NeverIn name k l = (m : ℕ) → k ≤ m → m ≤ l → ¬ (EnabledAt c name m)

  pub record Pays (k l : ℕ) : Type 0 where
    pub ahead : k < l
    pub just : (name : ℕ) → IsJust c.fairness name → TakenIn name k l ⊎ DisabledIn name k l
    pub compassionate : (name : ℕ) → IsCompassionate c.fairness name → TakenIn name k l ⊎ NeverIn name k l

  pub seen_round : (n k l : ℕ) → l ≤ n → Pays k l → Round (beginning c n) k l
  seen_round n k l h pays = record {
    ahead = pays.ahead;
    within = (let long = steps_length n 0 in omega arith);
    just = λ name j. elim (pays.just name j) [
      | inl t ↦ inl (t.0, t.1, t.2, taken_seen n t.0 name (let lt = t.2 in omega arith) t.3)
      | inr d ↦ inr (d.0, d.1, d.2, λ e. d.3 (enabled_there n d.0 name (let le = d.2 in omega arith) e))
    ];
    compassionate = λ name f. elim (pays.compassionate name f) [
      | inl t ↦ inl (t.0, t.1, t.2, taken_seen n t.0 name (let lt = t.2 in omega arith) t.3)
      | inr never ↦ inr (λ m from to e. never m from to (enabled_there n m name (omega arith) e))
    ];
  }

  pub round_within : (n k l : ℕ) → Round (beginning c n) k l → l ≤ n
  round_within n k l round = let long = steps_length n 0 in let h = round.within in omega arith

  pub round_pays : (n k l : ℕ) → Round (beginning c n) k l → Pays k l
  round_pays n k l round =
      let h = round_within n k l round in
      record {
        ahead = round.ahead;
        just = λ name j. elim (round.just name j) [
          | inl t ↦ inl (t.0, t.1, t.2, taken_there n t.0 name t.3)
          | inr d ↦ inr (d.0, d.1, d.2, λ e. d.3 (enabled_seen n d.0 name (let le = d.2 in omega arith) e))
        ];
        compassionate = λ name f. elim (round.compassionate name f) [
          | inl t ↦ inl (t.0, t.1, t.2, taken_there n t.0 name t.3)
          | inr never ↦ inr (λ m from to e. never m from to (enabled_seen n m name (omega arith) e))
        ];
      }

  pub round_stays : (k l m n : ℕ) → l ≤ n → Round (beginning c m) k l → Round (beginning c n) k l
  round_stays k l m n h round = seen_round n k l h (round_pays m k l round)

  -- n consecutive rounds of the computation
  abbrev pub PaysOften : ℕ → ℕ → ℕ → Type 0
  PaysOften zero k l = k ≡ l
  PaysOften (suc r) k l = (m : ℕ) × Pays k m × PaysOften r m l

  pub often_up : (r k l : ℕ) → PaysOften r k l → k ≤ l
  often_up zero k l same = omega (arith, same)
  often_up (suc r) k l often = let ahead = often.1.ahead in let rest = often_up r often.0 l often.2 in omega arith

  pub seen_rounds : (n r k l : ℕ) → l ≤ n → PaysOften r k l → Rounds (beginning c n) r k l
  seen_rounds n zero k l h same = same
  seen_rounds n (suc r) k l h often =
      let up = often_up r often.0 l often.2 in
      (often.0, seen_round n k often.0 (omega arith) often.1, seen_rounds n r often.0 l h often.2)

  pub rounds_pay : (n r k l : ℕ) → Rounds (beginning c n) r k l → PaysOften r k l
  rounds_pay n zero k l same = same
  rounds_pay n (suc r) k l rounds = (rounds.0, round_pays n k rounds.0 rounds.1, rounds_pay n r rounds.0 l rounds.2)

  pub rounds_stay : (r k l m n : ℕ) → l ≤ n → Rounds (beginning c m) r k l → Rounds (beginning c n) r k l
  rounds_stay r k l m n h rounds = seen_rounds n r k l h (rounds_pay m r k l rounds)
