-- What is owed to the names of a computation, paid to one name after the other, each behind all positions used before.
use Rattle.std.proofs.Common.{◌≡◌, ℕ, suc, ◌≤◌, ◌<◌, ◌⊎◌, inl, inr, length, arith, refl, sym, subst}
use native.Mathlib.Decide.{dec_le}
use Rattle.std.proofs.lemmas.Option.{slice_get_within}
use Rattle.observations.specs.declared.Fairness.TheVariants.{Just, Compassionate}
use Rattle.observations.specs.Observation.{IsJust, IsCompassionate}
use Rattle.fair_computations.specs.Computations.{Computation}
use Rattle.fair_computations.proofs.Beginnings.{TakenIn, DisabledIn, Pays, PaysOften}
use Rattle.fair_computations.proofs.Naming.{Naming, renamed, Never, Agree, agree_trans, changed, changed_here, changed_before, same_taken}

pub below_or_same : (a b : ℕ) → a < suc b → (a < b) ⊎ (b ≡ a)
below_or_same a b h = elim (dec_le b a) [ yes le ↦ inr (omega arith) | no gt ↦ inl (omega arith) ]

module _ {S : Type 0} (c : Computation S) (May : ℕ → ℕ → Type 0) where
  -- what is owed to the names below n is paid between k and l
  pub record Paid (v : Naming c May) (K n k l : ℕ) : Type 0 where
    pub ahead : k < l
    pub just : (name : ℕ) → name < n → IsJust c.fairness name → TakenIn (renamed c May v) name k l ⊎ DisabledIn (renamed c May v) name k l
    pub compassionate : (name : ℕ) → name < n → IsCompassionate c.fairness name → TakenIn (renamed c May v) name k l ⊎ Never c May name K

  longer : (v w : Naming c May) (K n k l j : ℕ) → l ≤ j → Agree c May v w l → Paid v K n k l → Paid w K n k j
  longer v w K n k l j h agree paid = record {
    ahead = (let a = paid.ahead in omega arith);
    just = λ name below is. elim (paid.just name below is) [
      | inl t ↦ inl (same_taken c May v w name k l j h agree t)
      | inr d ↦ inr (d.0, d.1, (let le = d.2 in omega arith), d.3)
    ];
    compassionate = λ name below is. elim (paid.compassionate name below is) [
      | inl t ↦ inl (same_taken c May v w name k l j h agree t)
      | inr never ↦ inr never
    ];
  }

  one_paid : (v : Naming c May) (K n k l : ℕ) → Paid v K n k l → (IsJust c.fairness n → TakenIn (renamed c May v) n k l ⊎ DisabledIn (renamed c May v) n k l)
      → (IsCompassionate c.fairness n → TakenIn (renamed c May v) n k l ⊎ Never c May n K) → Paid v K (suc n) k l
  one_paid v K n k l paid just here = record {
    ahead = paid.ahead;
    just = λ name below is. elim (below_or_same name n below) [
      | inl less ↦ paid.just name less is
      | inr same ↦ subst (λ x. TakenIn (renamed c May v) x k l ⊎ DisabledIn (renamed c May v) x k l) same (just (subst (λ x. IsJust c.fairness x) (sym same) is))
    ];
    compassionate = λ name below is. elim (below_or_same name n below) [
      | inl less ↦ paid.compassionate name less is
      | inr same ↦ subst (λ x. TakenIn (renamed c May v) x k l ⊎ Never c May x K) same (here (subst (λ x. IsCompassionate c.fairness x) (sym same) is))
    ];
  }

  -- with some names for the steps from k on all is paid to the names below n
  pub record IsPaidFrom (v : Naming c May) (K n k : ℕ) : Type 0 where
    pub naming : Naming c May
    pub agrees : Agree c May v naming k
    pub bound : ℕ
    pub paid : Paid naming K n k bound

  pub take_one : (v : Naming c May) (K n k : ℕ) → (found : IsPaidFrom v K n k) → (m : ℕ) → found.bound ≤ m → May n m → IsPaidFrom v K (suc n) k
  take_one v K n k found m from may =
      let w = found.naming in
      let u = changed c May w m n may in
      let agree = changed_before c May w m n found.bound may from in
      let ahead = found.paid.ahead in
      let taken : TakenIn (renamed c May u) n k (suc m) = (m, omega arith, omega arith, changed_here c May w m n may) in
      record {
        naming = u;
        agrees = agree_trans c May v w u k found.bound (omega arith) found.agrees agree;
        bound = suc m;
        paid = one_paid u K n k (suc m) (longer w u K n k found.bound (suc m) (omega arith) agree found.paid) (λ is. inl taken) (λ is. inl taken);
      }

  -- nothing more has to be paid, up to a later position
  pub leave_one : (v : Naming c May) (K n k : ℕ) → (found : IsPaidFrom v K n k) → (l : ℕ) → found.bound ≤ l
      → (IsJust c.fairness n → DisabledIn (renamed c May found.naming) n k l) → (IsCompassionate c.fairness n → Never c May n K) → IsPaidFrom v K (suc n) k
  leave_one v K n k found l from just here =
      let w = found.naming in
      record {
        naming = w;
        agrees = found.agrees;
        bound = l;
        paid = one_paid w K n k l (longer w w K n k found.bound l from (λ j below. refl) found.paid) (λ is. inr (just is)) (λ is. inr (here is));
      }

  just_within : (name : ℕ) → IsJust c.fairness name → name < length c.fairness
  just_within name (inl is) = slice_get_within c.fairness name Just is
  just_within name (inr is) = slice_get_within c.fairness name Compassionate is

  pub all_paid : (v : Naming c May) (K k l : ℕ) → K ≤ k → Paid v K (length c.fairness) k l → Pays (renamed c May v) k l
  all_paid v K k l high paid = record {
    ahead = paid.ahead;
    just = λ name is. paid.just name (just_within name is) is;
    compassionate = λ name is. elim (paid.compassionate name (slice_get_within c.fairness name Compassionate is) is) [
      | inl t ↦ inl t
      | inr never ↦ inr (λ m from to. never m (omega arith))
    ];
  }

  -- with some names for the steps from k on a round begins at k
  pub record IsRoundFrom (v : Naming c May) (k : ℕ) : Type 0 where
    pub naming : Naming c May
    pub agrees : Agree c May v naming k
    pub bound : ℕ
    pub pays : Pays (renamed c May naming) k bound

  -- a round stays one where names behind it are changed c May
  pub same_pays : (v w : Naming c May) (k l : ℕ) → Agree c May v w l → Pays (renamed c May v) k l → Pays (renamed c May w) k l
  same_pays v w k l agree pays = record {
    ahead = pays.ahead;
    just = λ name is. elim (pays.just name is) [ inl t ↦ inl (same_taken c May v w name k l l (omega arith) agree t) | inr d ↦ inr d ];
    compassionate = λ name is. elim (pays.compassionate name is) [ inl t ↦ inl (same_taken c May v w name k l l (omega arith) agree t) | inr never ↦ inr never ];
  }

  -- with some names for the steps from k on n consecutive rounds begin at k
  pub record AreRoundsFrom (v : Naming c May) (n k : ℕ) : Type 0 where
    pub naming : Naming c May
    pub agrees : Agree c May v naming k
    pub bound : ℕ
    pub often : PaysOften (renamed c May naming) n k bound
