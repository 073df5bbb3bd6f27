-- The tests for rounds decide them, and the counts are the greatest.
use Rattle.std.proofs.Common.{◌≡◌, ℕ, zero, suc, ◌+◌, ◌-◌, ◌≤◌, ◌<◌, ◌⊎◌, inl, inr, List, length, slice_index, get_or, Bool, true, false, arith, refl, sym, subst, ap, ◌∙◌}
use Rattle.std.specs.Prelude.{◌&&◌, ◌||◌, ◌==◌, ◌↔◌, nat_lt, nat_le, not, map, slice_get, unwrap_or, Option, Some, None, ⊤}
use Rattle.std.specs.Bool.{Decides}
use Rattle.std.specs.List.{range_with_len}
use Rattle.std.proofs.lemmas.Bool.{cases_lt}
use Rattle.std.proofs.lemmas.Bool.Decides.{Decides-and, Decides-or, Decides-not, Decides-like, Decides-eqb, Decides-ltb, nat_tests}
use Rattle.std.proofs.lemmas.List.{ext_get_or}
use Rattle.std.proofs.lemmas.List.FromFn.{length-map-range_with_len, get_or-map-range_with_len}
use Rattle.std.proofs.lemmas.Option.{slice_get_within, same_Some}
use Rattle.observations.specs.declared.Fairness.{Fairness}
use Rattle.observations.specs.declared.Fairness.TheVariants.{Unfair, Just, Compassionate}
use Rattle.observations.specs.Observation.{Observation, moment_at, name_at, last, IsEnabled, IsTaken, IsJust, IsCompassionate}
use Rattle.observations.specs.Rounds.{TakenBetween, DisabledWithin, NeverEnabled, Round, Rounds}
use Rattle.run_judging.specs.Greatest.{IsGreatest, AreGreatest}
use Rattle.run_judging.specs.Paying.{is_on, is_of}
use Rattle.judging_laws.specs.Searching.{some_between, each_between, greatest}
use Rattle.judging_laws.specs.Counted.{is_enabled, taken_between, disabled_within, never_enabled, is_paid, is_round, has_rounds, round_count, round_counts}
use Rattle.judging_laws.proofs.Searching.{some-between, each-between, greatest-passes, greatest-most}

on-decides : (row : List Bool) (name : ℕ) → Decides (is_on row name) (slice_get row name ≡ Some true)
on-decides row name = go (slice_get row name)
  where
    go : (flag : Option Bool) → Decides (unwrap_or flag false) (flag ≡ Some true)
    go None = (λ e. cc, λ e. cc)
    go (Some true) = (λ _. refl, λ _. refl)
    go (Some false) = (λ e. cc, λ e. cc)

of-decides : (taken : Option ℕ) (name : ℕ) → Decides (is_of taken name) (taken ≡ Some name)
of-decides None name = (λ e. cc, λ e. cc)
of-decides (Some other) name = Decides-like (other == name) (λ e. ap Some e) (λ e. same_Some other name e) (Decides-eqb other name)

leb-decides : (a b : ℕ) → Decides (nat_le a b) (a ≤ b)
leb-decides a b = (λ e. grind (arith, nat_tests), λ h. grind (arith, nat_tests))

module _ {S : Type 0} (o : Observation S) where
  taken-decides : (name k l : ℕ) → Decides (taken_between o name k l) (TakenBetween o name k l)
  taken-decides name k l = some-between (λ m. is_of (name_at o.later m) name) (λ m. IsTaken o name m) k l (λ m _ _. of-decides (name_at o.later m) name)

  off-decides : (name m : ℕ) → Decides (not (is_enabled o name m)) (¬ (IsEnabled o name m))
  off-decides name m = Decides-not (is_enabled o name m) (on-decides (moment_at o m).enabled name)

  disabled-decides : (name k l : ℕ) → Decides (disabled_within o name k l) (DisabledWithin o name k l)
  disabled-decides name k l = Decides-like (disabled_within o name k l)
      (λ (h : (m : ℕ) × (k ≤ m) × (m < suc l) × ¬ (IsEnabled o name m)). let high = h.2 in (h.0, h.1, omega arith, h.3))
      (λ h. let high = h.2 in (h.0, h.1, omega arith, h.3))
      (some-between (λ m. not (is_enabled o name m)) (λ m. ¬ (IsEnabled o name m)) k (suc l) (λ m _ _. off-decides name m))

  never-decides : (name k l : ℕ) → Decides (never_enabled o name k l) (NeverEnabled o name k l)
  never-decides name k l = Decides-like (never_enabled o name k l)
      (λ (h : (m : ℕ) → k ≤ m → m < suc l → ¬ (IsEnabled o name m)) m low high. h m low (omega arith))
      (λ h m low high. h m low (omega arith))
      (each-between (λ m. not (is_enabled o name m)) (λ m. ¬ (IsEnabled o name m)) k (suc l) (λ m _ _. off-decides name m))

  -- what is owed to a name is paid
  abbrev Paid : ℕ → ℕ → ℕ → Option Fairness → Type 0
  Paid name k l None = ⊤
  Paid name k l (Some Unfair) = ⊤
  Paid name k l (Some Just) = TakenBetween o name k l ⊎ DisabledWithin o name k l
  Paid name k l (Some Compassionate) = TakenBetween o name k l ⊎ NeverEnabled o name k l

  paid-decides : (name k l : ℕ) (f : Option Fairness) → Decides (is_paid o name k l f) (Paid name k l f)
  paid-decides name k l None = (λ _. tt, λ _. refl)
  paid-decides name k l (Some Unfair) = (λ _. tt, λ _. refl)
  paid-decides name k l (Some Just) = Decides-or (taken_between o name k l) (disabled_within o name k l) (taken-decides name k l) (disabled-decides name k l)
  paid-decides name k l (Some Compassionate) = Decides-or (taken_between o name k l) (never_enabled o name k l) (taken-decides name k l) (never-decides name k l)

  abbrev AllPaid : ℕ → ℕ → Type 0
  AllPaid k l = (name : ℕ) → 0 ≤ name → name < length o.fairness → Paid name k l (slice_get o.fairness name)

  round-paid : (k l : ℕ) → Round o k l → AllPaid k l
  round-paid k l round name _ _ = go (slice_get o.fairness name) refl
    where
      go : (f : Option Fairness) → slice_get o.fairness name ≡ f → Paid name k l f
      go None is = tt
      go (Some Unfair) is = tt
      go (Some Just) is = round.just name (inl is)
      go (Some Compassionate) is = round.compassionate name is

  paid-round : (k l : ℕ) → k < l → l ≤ last o → AllPaid k l → Round o k l
  paid-round k l ahead within all = record {
    ahead = ahead;
    within = within;
    just = λ name is. just name is;
    compassionate = λ name is. subst (Paid name k l) is (all name (omega arith) (slice_get_within o.fairness name Compassionate is));
  }
    where
      just : (name : ℕ) → IsJust o.fairness name → TakenBetween o name k l ⊎ DisabledWithin o name k l
      just name (inl is) = subst (Paid name k l) is (all name (omega arith) (slice_get_within o.fairness name Just is))
      just name (inr is) = elim (subst (Paid name k l) is (all name (omega arith) (slice_get_within o.fairness name Compassionate is))) [
        | inl taken ↦ inl taken
        | inr never ↦ inr (k, omega arith, omega arith, never k (omega arith) (omega arith))
      ]

  pub round-decides : (k l : ℕ) → Decides (is_round o k l) (Round o k l)
  unfolding is_round
  round-decides k l =
      let paid : Bool = each_between 0 (length o.fairness) (λ name. is_paid o name k l (slice_get o.fairness name)) in
      Decides-like (is_round o k l)
      (λ (h : (k < l) × ((l ≤ last o) × AllPaid k l)). paid-round k l h.0 h.1.0 h.1.1)
      (λ round. (round.ahead, (round.within, round-paid k l round)))
      (Decides-and (nat_lt k l) (nat_le l (last o) && paid) (Decides-ltb k l)
      (Decides-and (nat_le l (last o)) paid (leb-decides l (last o))
      (each-between (λ name. is_paid o name k l (slice_get o.fairness name)) (λ name. Paid name k l (slice_get o.fairness name)) 0 (length o.fairness) (λ name _ _. paid-decides name k l (slice_get o.fairness name)))))

  pub rounds-decide : (n k l : ℕ) → Decides (has_rounds o n k l) (Rounds o n k l)
  unfolding has_rounds
  rounds-decide zero k l = Decides-eqb k l
  rounds-decide (suc n) k l = Decides-like (has_rounds o (suc n) k l)
      (λ (h : (m : ℕ) × (0 ≤ m) × (m < suc (last o)) × (Round o k m × Rounds o n m l)). (h.0, h.3.0, h.3.1))
      (λ h. let inside = h.1.within in (h.0, omega arith, omega arith, (h.1, h.2)))
      (some-between (λ m. is_round o k m && has_rounds o n m l) (λ m. Round o k m × Rounds o n m l) 0 (suc (last o))
      (λ m _ _. Decides-and (is_round o k m) (has_rounds o n m l) (round-decides k m) (rounds-decide n m l)))

  -- each round has a step
  pub rounds-up : (n k l : ℕ) → Rounds o n k l → k + n ≤ l
  rounds-up zero k l same = omega (arith, same)
  rounds-up (suc n) k l rounds = let ahead = rounds.1.ahead in let rest = rounds-up n rounds.0 l rounds.2 in omega arith

  pub rounds-within : (n k l : ℕ) → k ≤ last o → Rounds o n k l → l ≤ last o
  rounds-within zero k l le same = omega (arith, same)
  rounds-within (suc n) k l le rounds = rounds-within n rounds.0 l rounds.1.within rounds.2

  begin-decides : (k n : ℕ) → Decides (some_between 0 (suc (last o)) (has_rounds o n k)) ((l : ℕ) × (0 ≤ l) × (l < suc (last o)) × Rounds o n k l)
  begin-decides k n = some-between (has_rounds o n k) (Rounds o n k) 0 (suc (last o)) (λ l _ _. rounds-decide n k l)

  count-greatest : (k : ℕ) → k ≤ last o → IsGreatest o k (round_count o k)
  unfolding round_count
  count-greatest k le =
      let t : ℕ → Bool = λ n. some_between 0 (suc (last o)) (has_rounds o n k) in
      let none : t 0 ≡ true = (begin-decides k 0).1 (k, omega arith, omega arith, refl) in
      let some = (begin-decides k (greatest (last o) t)).0 (greatest-passes (last o) t none) in
      record {
        exist = (some.0, some.3);
        most = λ m l rounds.
            let inside = rounds-within m k l le rounds in
            let up = rounds-up m k l rounds in
            greatest-most (last o) t m (omega arith) ((begin-decides k m).1 (l, omega arith, omega arith, rounds));
      }

  counted : (k : ℕ) → k ≤ last o → slice_index (round_counts o) k ≡ round_count o k
  unfolding round_counts
  counted k le = get_or-map-range_with_len (round_count o) 0 (suc (last o)) k k 0 (omega arith) (omega arith)

  long : length (round_counts o) ≡ suc (last o)
  unfolding round_counts
  long = length-map-range_with_len (round_count o) 0 (suc (last o))

  one-greatest : (k m n : ℕ) → IsGreatest o k m → IsGreatest o k n → m ≡ n
  one-greatest k m n a b =
      let up = b.most m a.exist.0 a.exist.1 in
      let down = a.most n b.exist.0 b.exist.1 in
      omega arith

  pub counts-are-greatest : AreGreatest o (round_counts o)
  counts-are-greatest = record { long = long; greatest = λ k le. subst (IsGreatest o k) (sym (counted k le)) (count-greatest k le) }

  pub greatest-are-counts : (counts : List ℕ) → AreGreatest o counts → counts ≡ round_counts o
  greatest-are-counts counts are =
      let size = are.long in
      let own = long in
      ext_get_or 0 counts (round_counts o) (size ∙ sym own)
      (λ k below. one-greatest k (slice_index counts k) (slice_index (round_counts o) k) (are.greatest k (omega arith)) (counts-are-greatest.greatest k (omega arith)))

  pub counts-exact : (counts : List ℕ) → AreGreatest o counts ↔ (counts ≡ round_counts o)
  counts-exact counts = (greatest-are-counts counts, λ e. subst (AreGreatest o) (sym e) counts-are-greatest)
