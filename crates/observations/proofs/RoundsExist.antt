-- Every run goes on, to as many consecutive rounds as are wanted.
--
-- The schedule begins in the last state of the run, with all just names in the queue. What is proved of its turns is
-- carried over to positions of the longer observation.
use Rattle.std.proofs.Common.{◌≡◌, ℕ, zero, suc, ◌+◌, ◌-◌, ◌≤◌, ◌<◌, inl, inr, List, [], ◌∷◌, ◌++◌, length, Bool, true, false, IsTrue, arith, refl, sym, subst, ap, ◌∙◌, length-append}
use Rattle.std.specs.Prelude.{◌==◌, slice_get}
use Rattle.std.proofs.lemmas.Bool.Decides.{nat_tests}
use Rattle.std.specs.declared.option.Option.{Option}
use Rattle.std.specs.declared.option.Option.TheVariants.{Some, None}
use Rattle.observations.specs.declared.Fairness.{Fairness}
use Rattle.observations.specs.declared.Fairness.TheVariants.{Unfair, Just, Compassionate}
use Rattle.observations.specs.Observation.{Moment, Observation, moment_after, name_at, IsEnabled, IsTaken, IsJust, IsCompassionate}
use Rattle.observations.specs.Rounds.{TakenBetween, Round, Rounds}
use Rattle.observations.specs.Extension.{FollowsBy, IsObserved, MayGoOn, extended, EndsInRounds}
use Rattle.observations.proofs.Queue.{elem, true_or_false, picked_enabled}
use Rattle.observations.proofs.Schedule.{Turn, chosen, turned, turn, turn_at, Taken, IsRoundFrom, RoundsFrom, rounds_come, turn_more}

abbrev flag : List Bool → ℕ → Bool
flag [] n = false
flag (b ∷ bs) zero = b
flag (b ∷ bs) (suc n) = flag bs n

flag_off : (bs : List Bool) (n : ℕ) → flag bs n ≡ false → slice_get bs n ≡ Some true → ⊥
flag_off [] n h e = cc
flag_off (b ∷ bs) zero h e = cc
flag_off (b ∷ bs) (suc n) h e = flag_off bs n h e

abbrev just_from : ℕ → List Fairness → List ℕ
just_from n [] = []
just_from n (Unfair ∷ fs) = just_from (suc n) fs
just_from n (Just ∷ fs) = n ∷ just_from (suc n) fs
just_from n (Compassionate ∷ fs) = n ∷ just_from (suc n) fs

self_test : (n m : ℕ) → n ≡ m → (n == m) ≡ true
self_test n m e = grind (arith, nat_tests)

elem-cons : (x y : ℕ) (q : List ℕ) → IsTrue (elem x q) → IsTrue (elem x (y ∷ q))
elem-cons x y q h = elim (true_or_false (y == x)) [ inl e ↦ rw e refl | inr e ↦ rw e h ]

elem-first : (x y : ℕ) (q : List ℕ) → y ≡ x → IsTrue (elem x (y ∷ q))
elem-first x y q e = rw (self_test y x e) refl

just_elem : (n i : ℕ) (fs : List Fairness) → IsJust fs i → IsTrue (elem (n + i) (just_from n fs))
just_elem n i [] (inl h) = cc
just_elem n i [] (inr h) = cc
just_elem n zero (Unfair ∷ fs) (inl h) = cc
just_elem n zero (Unfair ∷ fs) (inr h) = cc
just_elem n zero (Just ∷ fs) h = elem-first (n + 0) n (just_from (suc n) fs) (omega arith)
just_elem n zero (Compassionate ∷ fs) h = elem-first (n + 0) n (just_from (suc n) fs) (omega arith)
just_elem n (suc i) (Unfair ∷ fs) h = subst (λ x. IsTrue (elem x (just_from (suc n) fs))) (omega arith) (just_elem (suc n) i fs h)
just_elem n (suc i) (Just ∷ fs) h = elem-cons (n + suc i) n (just_from (suc n) fs) (subst (λ x. IsTrue (elem x (just_from (suc n) fs))) (omega arith) (just_elem (suc n) i fs h))
just_elem n (suc i) (Compassionate ∷ fs) h = elem-cons (n + suc i) n (just_from (suc n) fs) (subst (λ x. IsTrue (elem x (just_from (suc n) fs))) (omega arith) (just_elem (suc n) i fs h))

abbrev name_or : ℕ → Option ℕ → ℕ
name_or idle None = idle
name_or idle (Some y) = y

module _ {S : Type 0} (enabled : S → List Bool) (Can : S → ℕ → S → Type 0) (next : S → ℕ → S) (idle : ℕ)
    (may : MayGoOn enabled Can next idle) where
  abbrev en : S → ℕ → Bool
  en s name = flag (enabled s) name

  abbrev seen : Turn S → Moment S
  seen t = record { state = t.state; enabled = enabled t.state }

  abbrev schedule : Turn S → ℕ → List (ℕ × Moment S)
  schedule t zero = []
  schedule t (suc n) = (name_or idle (chosen en next t), seen (turn en next t)) ∷ schedule (turn en next t) n

  flag_on : (bs : List Bool) (n : ℕ) → IsTrue (flag bs n) → slice_get bs n ≡ Some true
  flag_on [] n h = cc
  flag_on (b ∷ bs) zero h = ap Some h
  flag_on (b ∷ bs) (suc n) h = flag_on bs n h

  follow_schedule : (n : ℕ) (t : Turn S) → FollowsBy enabled Can t.state (schedule t n)
  follow_schedule zero t = tt
  follow_schedule (suc n) t = (go (chosen en next t) refl, refl, follow_schedule n (turn en next t))
    where
      go : (c : Option ℕ) → chosen en next t ≡ c → Can t.state (name_or idle c) (turned en next c t).state
      go None e = may.idles t.state
      go (Some y) e = may.goes t.state y (flag_on (enabled t.state) y (picked_enabled (en t.state) t.queue y e))

  follow_append : (first : Moment S) (l r : List (ℕ × Moment S)) → FollowsBy enabled Can first.state l → FollowsBy enabled Can (moment_after first l (length l)).state r → FollowsBy enabled Can first.state (l ++ r)
  follow_append first [] r h g = g
  follow_append first (x ∷ l) r h g = (h.0, h.1, follow_append x.1 l r h.2 g)

  schedule_moment : (n m : ℕ) (t : Turn S) → m ≤ n → moment_after (seen t) (schedule t n) m ≡ seen (turn_at en next t m)
  schedule_moment zero zero t h = refl
  schedule_moment zero (suc m) t h = absurd (omega arith)
  schedule_moment (suc n) zero t h = refl
  schedule_moment (suc n) (suc m) t h = schedule_moment n m (turn en next t) (omega arith)

  schedule_name : (n m : ℕ) (t : Turn S) → m < n → name_at (schedule t n) m ≡ Some (name_or idle (chosen en next (turn_at en next t m)))
  schedule_name zero m t h = absurd (omega arith)
  schedule_name (suc n) zero t h = refl
  schedule_name (suc n) (suc m) t h = schedule_name n m (turn en next t) (omega arith)

  moment_behind : (first : Moment S) (l r : List (ℕ × Moment S)) (m : ℕ) → moment_after first (l ++ r) (length l + m) ≡ moment_after (moment_after first l (length l)) r m
  moment_behind first [] r m = ap (moment_after first r) (let e : 0 + m ≡ m = omega arith in e)
  moment_behind first (x ∷ l) r m = ap (moment_after first (x ∷ l ++ r)) (let e : suc (length l) + m ≡ suc (length l + m) = omega arith in e) ∙ moment_behind x.1 l r m

  name_behind : (l r : List (ℕ × Moment S)) (m : ℕ) → name_at (l ++ r) (length l + m) ≡ name_at r m
  name_behind [] r m = ap (name_at r) (let e : 0 + m ≡ m = omega arith in e)
  name_behind (x ∷ l) r m = ap (name_at (x ∷ l ++ r)) (let e : suc (length l) + m ≡ suc (length l + m) = omega arith in e) ∙ name_behind l r m

  schedule_length : (n : ℕ) (t : Turn S) → length (schedule t n) ≡ n
  schedule_length zero t = refl
  schedule_length (suc n) t = ap suc (schedule_length n (turn en next t))

  module _ (o : Observation S) (t : Turn S) (end : moment_after o.first o.later (length o.later) ≡ seen t) (N : ℕ) where
    abbrev on : Observation S
    on = extended o (schedule t N)

    moment_on : (m : ℕ) → m ≤ N → moment_after o.first (o.later ++ schedule t N) (length o.later + m) ≡ seen (turn_at en next t m)
    moment_on m h = moment_behind o.first o.later (schedule t N) m ∙ ap (λ z. moment_after z (schedule t N) m) end ∙ schedule_moment N m t h

    taken_on : (x m : ℕ) → m < N → chosen en next (turn_at en next t m) ≡ Some x → IsTaken on x (length o.later + m)
    taken_on x m h e = name_behind o.later (schedule t N) m ∙ schedule_name N m t h ∙ ap (λ c. Some (name_or idle c)) e

    off_on : (x m : ℕ) → m ≤ N → en (turn_at en next t m).state x ≡ false → ¬ (IsEnabled on x (length o.later + m))
    off_on x m h e = λ enabled_there. flag_off (enabled (turn_at en next t m).state) x e (subst (λ z. slice_get z.enabled x ≡ Some true) (moment_on m h) enabled_there)

    length_on : length (o.later ++ schedule t N) ≡ length o.later + N
    length_on = (let a = length-append o.later (schedule t N) in let b = schedule_length N t in omega arith)

    round_on : (a n : ℕ) → a + n ≤ N → IsRoundFrom en next (IsJust o.fairness) (IsCompassionate o.fairness) (turn_at en next t a) n → Round on (length o.later + a) (length o.later + (a + n))
    round_on a n h round = record {
      ahead = (let one = round.0 in omega arith);
      within = (let len = length_on in omega arith);
      just = λ x j. elim (round.1 x j) [
        | inl taken ↦ inl (taken_within x taken)
        | inr off ↦ inr (length o.later + (a + off.0), omega arith, (let le = off.1 in omega arith), off_on x (a + off.0) (let le = off.1 in omega arith) (subst (λ z. en z.state x ≡ false) (turn_more en next a off.0 t) off.2))
      ];
      compassionate = λ x f. elim (round.2 x f) [
        | inl taken ↦ inl (taken_within x taken)
        | inr never ↦ inr (λ m from to.
            let k : ℕ = m - (length o.later + a) in
            let place : length o.later + (a + k) ≡ m = omega arith in
            subst (λ z. ¬ (IsEnabled on x z)) place (off_on x (a + k) (omega arith) (subst (λ z. en z.state x ≡ false) (turn_more en next a k t) (never k (omega arith)))))
      ];
    }
      where
        taken_within : (x : ℕ) → Taken en next x (turn_at en next t a) n → TakenBetween on x (length o.later + a) (length o.later + (a + n))
        taken_within x taken = (length o.later + (a + taken.0), omega arith, (let lt = taken.1 in omega arith), taken_on x (a + taken.0) (let lt = taken.1 in omega arith) (subst (λ z. chosen en next z ≡ Some x) (turn_more en next a taken.0 t) taken.2))

    rounds_on : (r a n : ℕ) → a + n ≤ N → RoundsFrom en next (IsJust o.fairness) (IsCompassionate o.fairness) r (turn_at en next t a) n → Rounds on r (length o.later + a) (length o.later + (a + n))
    rounds_on zero a n h rounds = omega (arith, rounds)
    rounds_on (suc r) a n h rounds =
        let b = rounds.0 in
        let c = rounds.1 in
        let sum = rounds.2 in
        let same : length o.later + (a + b + c) ≡ length o.later + (a + n) = omega arith in (
          length o.later + (a + b),
          round_on a b (omega arith) rounds.3,
          subst (λ z. Rounds on r (length o.later + (a + b)) z) same
              (rounds_on r (a + b) c (omega arith) (subst (λ z. RoundsFrom en next (IsJust o.fairness) (IsCompassionate o.fairness) r z c) (turn_more en next a b t) rounds.4)),
        )

  enabled_end : (first : Moment S) (l : List (ℕ × Moment S)) → first.enabled ≡ enabled first.state → FollowsBy enabled Can first.state l → (moment_after first l (length l)).enabled ≡ enabled (moment_after first l (length l)).state
  enabled_end first [] e h = e
  enabled_end first (x ∷ l) e h = enabled_end x.1 l h.1 h.2

  pub rounds_exist : (o : Observation S) (n : ℕ) → IsObserved o.fairness enabled Can o → EndsInRounds enabled Can o n
  rounds_exist o n observed =
      let final = moment_after o.first o.later (length o.later) in
      let queue = just_from 0 o.fairness in
      let t : Turn S = record { state = final.state; queue = queue } in
      let M : ℕ = suc (length queue) in
      let end : final ≡ seen t = ap (λ e. record { state = final.state; enabled = e }) (enabled_end o.first o.later observed.first observed.follow) in
      let just_in : (x : ℕ) → IsJust o.fairness x → IsTrue (elem x queue) = λ x j. subst (λ z. IsTrue (elem z queue)) (let e : 0 + x ≡ x = omega arith in e) (just_elem 0 x o.fairness j) in
      let found = rounds_come en next (IsJust o.fairness) (IsCompassionate o.fairness) (λ x f. inr f) M (omega arith) n (suc (length queue)) queue t (omega arith)
      (just_in, omega arith)
      (λ x f out. absurd (out_of x (just_in x (inr f)) out)) in
      let N : ℕ = found.0 + found.1 in
      let len = length_on o t end N in
      record {
        extra = schedule t N;
        observed = record { fairness = refl; first = observed.first; follow = follow_append o.first o.later (schedule t N) observed.follow (follow_schedule N t) };
        begin = length o.later + found.0;
        behind = omega arith;
        rounds = subst (λ z. Rounds (extended o (schedule t N)) n (length o.later + found.0) z) (sym len) (rounds_on o t end N n found.0 found.1 (omega arith) found.2);
      }
    where
      out_of : (x : ℕ) → IsTrue (elem x (just_from 0 o.fairness)) → elem x (just_from 0 o.fairness) ≡ false → ⊥
      out_of x h e = cc
