-- One position back: how many rounds begin there.
use Rattle.std.proofs.Common.{◌≡◌, ◌↔◌, ℕ, zero, suc, ◌+◌, ◌≤◌, ◌<◌, ◌⊎◌, inl, inr, List, length, slice_index, slice_set, Bool, true, arith, refl, sym, subst, ap, ◌∙◌, [], get_or-set_same, get_or-set_other}
use Rattle.std.specs.Prelude.{slice_get, replicate, Result, Ok, Err, IfOk}
use Rattle.std.specs.declared.option.Option.TheVariants.{Some}
use Rattle.std.proofs.lemmas.Bool.{cases_lt}
use Rattle.std.proofs.lemmas.List.{length-set, get_or-replicate}
use Rattle.observations.specs.Observation.{Observation, last}
use Rattle.observations.specs.Rounds.{Round, Rounds}
use Rattle.run_judging.specs.declared.ahead.Ahead.{Ahead}
use Rattle.run_judging.specs.Greatest.{IsBarred, IsOpen, IsGreatest, AreGreatest, IsGreatestOpen, AreGreatestOpen}
use Rattle.observations.specs.declared.Fairness.{Fairness}
use Rattle.run_judging.specs.declared.course.Course.{Course}
use Rattle.run_judging.specs.Shown.{Shows}
use Rattle.run_judging.specs.Paying.{Meets, PaysAll, IsMost}
use Rattle.run_judging.proofs.Looking.{AreAhead, pays-round, round-pays}

-- the end is the first barred position from k on, or behind the last one where there is none
pub record IsEnd (barred : List Bool) (never k end : ℕ) : Type 0 where
  pub from : k ≤ end
  pub within : end ≤ never
  pub open_before : (m : ℕ) → k ≤ m → m < end → ¬ (IsBarred barred m)
  pub barred_at : end < never → IsBarred barred end

pub end-here : (barred : List Bool) (never k : ℕ) → k < never → IsBarred barred k → IsEnd barred never k k
end-here barred never k less is = record { from = omega arith; within = omega arith; open_before = λ m from below. absurd (omega arith); barred_at = λ _. is }

pub end-later : (barred : List Bool) (never k end : ℕ) → ¬ (IsBarred barred k) → IsEnd barred never (suc k) end → IsEnd barred never k end
end-later barred never k end none h = record {
  from = (let f = h.from in omega arith);
  within = h.within;
  open_before = λ m from below. elim (cases_lt k m) [
    | inl less ↦ h.open_before m (omega arith) below
    | inr same ↦ (λ is. none (let e : m ≡ k = omega arith in subst (λ j. IsBarred barred j) e is))
  ];
  barred_at = h.barred_at;
}

-- each number from k on is the greatest for its position
pub record AreGreatestFrom {S : Type 0} (o : Observation S) (barred : List Bool) (k : ℕ) (counts : List ℕ) : Type 0 where
  pub each : (j : ℕ) → k ≤ j → j ≤ last o → ¬ (IsBarred barred j) → IsGreatestOpen o barred j (slice_index counts j)

pub rounds-up : {S : Type 0} (o : Observation S) (n k l : ℕ) → Rounds o n k l → k ≤ l
rounds-up o zero k l same = omega (arith, same)
rounds-up o (suc n) k l rounds = let ahead = rounds.1.ahead in let rest = rounds-up o n rounds.0 l rounds.2 in omega arith

module _ {S : Type 0} (o : Observation S) (barred : List Bool) (never k end n : ℕ) (demands counts : List ℕ) (aheads : List Ahead)
    (size : never ≡ suc (last o))
    (same : length o.fairness ≡ length aheads)
    (below : k < never)
    (stop : IsEnd barred never k end)
    (ahead : AreAhead o k aheads)
    (meets : (l : ℕ) → l < never → (Meets demands l) ↔ ((k < l) × PaysAll o.fairness aheads l))
    (most : IsMost demands counts end n)
    (later : AreGreatestFrom o barred (suc k) counts)
    (open_here : ¬ (IsBarred barred k)) where
  exist : (n ≡ 0) ⊎ ((l : ℕ) × (l < end) × Meets demands l × (n ≡ suc (slice_index counts l))) → (l : ℕ) × Rounds o n k l × IsOpen barred k l
  exist (inl none) = subst (λ m. (l : ℕ) × Rounds o m k l × IsOpen barred k l) (sym none) (k, refl, λ m from to is. open_here (let e : m ≡ k = omega arith in subst (λ j. IsBarred barred j) e is))
  exist (inr found) =
      let l = found.0 in
      let low = found.1 in
      let room = stop.within in
      let paid = (meets l (omega arith)).0 found.2 in
      let further = paid.0 in
      let round : Round o k l = round-pays o k l aheads ahead same further (omega arith) paid.1 in
      let rest = (later.each l (omega arith) (omega arith) (stop.open_before l (omega arith) low)).exist in
      subst (λ m. (l : ℕ) × Rounds o m k l × IsOpen barred k l) (sym found.3) (
        rest.0,
        (l, round, rest.1),
        λ m from to. elim (cases_lt m end) [
          | inl before ↦ stop.open_before m from before
          | inr behind ↦ rest.2 m (omega arith) to
        ],
      )

  no_more : (m l : ℕ) → Rounds o m k l → IsOpen barred k l → m ≤ n
  no_more zero l rounds free = omega arith
  no_more (suc m) l rounds free =
      let j = rounds.0 in
      let round = rounds.1 in
      let forward = round.ahead in
      let inside = round.within in
      let up = rounds-up o m j l rounds.2 in
      let low : j < end = elim (cases_lt j end) [
        | inl less ↦ less
        | inr past ↦ absurd (free end stop.from (omega arith) (stop.barred_at (omega arith)))
      ] in
      let above = most.most j low ((meets j (omega arith)).1 (forward, pays-round o k j aheads ahead round)) in
      let rest = (later.each j (omega arith) inside (stop.open_before j (omega arith) low)).most m l rounds.2 (λ i from to. free i (omega arith) to) in
      omega arith

  pub counted : IsGreatestOpen o barred k n
  counted = record { exist = exist most.found; most = no_more }

pub set-greatest : {S : Type 0} (o : Observation S) (barred : List Bool) (k n : ℕ) (counts : List ℕ) → k < length counts → AreGreatestFrom o barred (suc k) counts → IsGreatestOpen o barred k n → AreGreatestFrom o barred k (slice_set counts k n)
set-greatest o barred k n counts inside later here = record {
  each = λ j from to free. elim (cases_lt k j) [
    | inl less ↦ subst (λ v. IsGreatestOpen o barred j v) (sym (get_or-set_other counts k j n 0 (λ e. omega (arith, e)))) (later.each j (omega arith) to free)
    | inr same ↦ (
        let e : k ≡ j = omega arith in
        subst (λ i. IsGreatestOpen o barred i (slice_index (slice_set counts k n) i)) e (subst (λ v. IsGreatestOpen o barred k v) (sym (get_or-set_same counts k n 0 inside)) here)
        )
  ];
}

pub pass-greatest : {S : Type 0} (o : Observation S) (barred : List Bool) (k : ℕ) (counts : List ℕ) → IsBarred barred k → AreGreatestFrom o barred (suc k) counts → AreGreatestFrom o barred k counts
pass-greatest o barred k counts is later = record {
  each = λ j from to free. elim (cases_lt k j) [
    | inl less ↦ later.each j (omega arith) to free
    | inr same ↦ absurd (free (let e : k ≡ j = omega arith in subst (λ i. IsBarred barred i) e is))
  ];
}

-- a count and its position together stay below the number of positions
pub small-set : (demands counts : List ℕ) (never k end n : ℕ) → k < never → end ≤ never → length counts ≡ never → ((l : ℕ) → l < never → Meets demands l → k < l) → IsMost demands counts end n → ((m : ℕ) → m < never → slice_index counts m + m < never) → (m : ℕ) → m < never → slice_index (slice_set counts k n) m + m < never
small-set demands counts never k end n below room long further most small m within = elim (cases_lt m k) [
  | inl less ↦ subst (λ v. v + m < never) (sym (get_or-set_other counts k m n 0 (λ e. omega (arith, e)))) (small m within)
  | inr more ↦ elim (cases_lt k m) [
    | inl less ↦ subst (λ v. v + m < never) (sym (get_or-set_other counts k m n 0 (λ e. omega (arith, e)))) (small m within)
    | inr same ↦ (
        let e : k ≡ m = omega arith in
        subst (λ i. slice_index (slice_set counts k n) i + i < never) e (subst (λ v. v + k < never) (sym (get_or-set_same counts k n 0 (omega arith))) (own most.found))
        )
  ]
]
  where
    own : (n ≡ 0) ⊎ ((l : ℕ) × (l < end) × Meets demands l × (n ≡ suc (slice_index counts l))) → n + k < never
    own (inl none) = omega arith
    own (inr found) = (
        let low = found.1 in
        let ahead = further found.0 (omega arith) found.2 in
        let rest = small found.0 (omega arith) in
        let is = found.3 in
        omega arith
        )

-- a position at which the rounds are counted, from what the calls say
pub count-step : {S : Type 0} (o : Observation S) (c : Course) (barred : List Bool) (never p k end n : ℕ) (demands read counts : List ℕ) (fairness : List Fairness) (aheads : List Ahead)
    → never ≡ length c.enabled.items → p ≡ suc k → k < never → length counts ≡ never → length aheads ≡ length c.fairness.items
    → IsEnd barred never k end → ¬ (IsBarred barred k) → fairness ≡ c.fairness.items → read ≡ demands
    → ((l : ℕ) → l < never → (Meets demands l) ↔ ((k < l) × PaysAll fairness aheads l))
    → IsMost read counts end n
    → Shows c o → AreAhead o k aheads → AreGreatestFrom o barred p counts → AreGreatestFrom o barred k (slice_set counts k n)
count-step o c barred never p k end n demands read counts fairness aheads long is below size same stop free owed reads meets most shows ahead later =
    let behind : AreGreatestFrom o barred (suc k) counts = subst (λ i. AreGreatestFrom o barred i counts) is later in
    let names : fairness ≡ o.fairness = owed ∙ sym shows.fairness in
    let equal : length o.fairness ≡ length aheads = ap length shows.fairness ∙ sym same in
    let meets' = subst (λ f. (l : ℕ) → l < never → (Meets demands l) ↔ ((k < l) × PaysAll f aheads l)) names meets in
    let most' = subst (λ d. IsMost d counts end n) reads most in
    set-greatest o barred k n counts (omega arith) behind
    (counted o barred never k end n demands counts aheads (long ∙ shows.long) equal below stop ahead meets' most' behind free)

pub pass-step : {S : Type 0} (o : Observation S) (barred : List Bool) (p k : ℕ) (counts : List ℕ) → p ≡ suc k → IsBarred barred k → AreGreatestFrom o barred p counts → AreGreatestFrom o barred k counts
pass-step o barred p k counts is here later = pass-greatest o barred k counts here (subst (λ i. AreGreatestFrom o barred i counts) is later)

pub end-step : (barred : List Bool) (never p k end : ℕ) → p ≡ suc k → ¬ (IsBarred barred k) → IsEnd barred never p end → IsEnd barred never k end
end-step barred never p k end is none h = end-later barred never k end none (subst (λ i. IsEnd barred never i end) is h)

pub end-behind : (barred : List Bool) (never : ℕ) → IsEnd barred never never never
end-behind barred never = record { from = omega arith; within = omega arith; open_before = λ m from below. absurd (omega arith); barred_at = λ less. absurd (omega arith) }

pub small-step : (demands read counts : List ℕ) (never k end n : ℕ) (fairness : List Fairness) (aheads : List Ahead) → k < never → end ≤ never → length counts ≡ never → read ≡ demands → ((l : ℕ) → l < never → (Meets demands l) ↔ ((k < l) × PaysAll fairness aheads l)) → IsMost read counts end n → ((m : ℕ) → m < never → slice_index counts m + m < never) → (m : ℕ) → m < never → slice_index (slice_set counts k n) m + m < never
small-step demands read counts never k end n fairness aheads below room long reads meets most small =
    small-set demands counts never k end n below room long (λ l within met. ((meets l within).0 met).0) (subst (λ d. IsMost d counts end n) reads most) small

pub none-greatest : {S : Type 0} (o : Observation S) (c : Course) (barred : List Bool) (never : ℕ) (counts : List ℕ) → never ≡ length c.enabled.items → Shows c o → AreGreatestFrom o barred never counts
none-greatest o c barred never counts is shows = record { each = λ j from to free. (let long = shows.long in absurd (omega arith)) }

-- without barred positions
pub unbarred : {S : Type 0} (o : Observation S) (c : Course) (counts : List ℕ) → length counts ≡ length c.enabled.items → Shows c o → AreGreatestOpen o [] counts → AreGreatest o counts
unbarred o c counts long shows h = record { long = long ∙ shows.long; greatest = λ k within. plain k (h.greatest k within (λ e. free k e)) }
  where
    free : (m : ℕ) → slice_get {X = Bool} [] m ≡ Some true → ⊥
    free m e = cc

    plain : (k : ℕ) → IsGreatestOpen o [] k (slice_index counts k) → IsGreatest o k (slice_index counts k)
    plain k g = record { exist = (g.exist.0, g.exist.1); most = λ m l rounds. g.most m l rounds (λ i from to e. free i e) }

pub both-ok : {A E : Type 0} (r : Result A E) (P Q R : A → Type 0) → IfOk r P → IfOk r Q → ((x : A) → P x → Q x → R x) → IfOk r R
both-ok (Ok x) P Q R p q f = f x p q
both-ok (Err e) P Q R p q f = tt

pub set-long : (counts : List ℕ) (k v n : ℕ) → length counts ≡ n → length (slice_set counts k v) ≡ n
set-long counts k v n is = length-set counts k v ∙ is

pub zero-small : (counts : List ℕ) (n never : ℕ) → counts ≡ replicate n 0 → never ≡ n → (m : ℕ) → m < never → slice_index counts m + m < never
zero-small counts n never is long m within =
    let none : slice_index counts m ≡ 0 = ap (λ l. slice_index l m) is ∙ get_or-replicate n m 0 0 (omega arith) in
    omega arith
