-- What is found of a sentence, position by position from the last one back; and the response in numbers.
use Rattle.std.proofs.Common.{◌≡◌, ℕ, zero, suc, ◌+◌, ◌-◌, ◌≤◌, ◌<◌, ◌⊎◌, inl, inr, List, length, slice_index, get_or, Bool, true, false, ℤ, arith, refl, sym, subst, ap, ◌∙◌}
use Rattle.std.specs.Prelude.{slice_get, max, if◌then◌else◌}
use Rattle.std.specs.declared.option.Option.{Option}
use Rattle.std.specs.declared.option.Option.TheVariants.{Some, None}
use Rattle.std.proofs.Math.Nat.{max-eq_left, max-eq_right, le-max_left, le-max_right}
use Rattle.std.proofs.lemmas.Bool.{cases_lt}
use Rattle.std.proofs.lemmas.Option.{slice_get_within, slice_get-get_or, same_Some}
use Rattle.observations.specs.Observation.{Observation, state_at, last}
use Rattle.observations.specs.Rounds.{Rounds}
use Rattle.observations.specs.Goals.{HoldsAt, at_least_zero, RespondsFrom}
use Rattle.run_judging.specs.Shown.{AreFlags, AreValues}
use Rattle.run_judging.specs.Greatest.{IsBarred, IsOpen, AreGreatestOpen}
use Rattle.run_judging.specs.Judging.{IsFirstFailure, Responds}
use Rattle.run_judging.proofs.Backwards.{rounds-up}

-- what is found of the positions from k on
abbrev pub IsFirstFailureFrom : ℕ → ℕ → (ℕ → Type 0) → Option ℕ → Type 0
IsFirstFailureFrom k n From None = (i : ℕ) → k ≤ i → i < n → From i
IsFirstFailureFrom k n From (Some i) = (k ≤ i) × (i < n) × (From i → ⊥) × ((j : ℕ) → k ≤ j → j < i → From j)

module _ (n : ℕ) (From : ℕ → Type 0) where
  pub failure-none : IsFirstFailureFrom n n From None
  failure-none i from below = absurd (omega arith)

  pub failure-fails : (k : ℕ) → k < n → (From k → ⊥) → IsFirstFailureFrom k n From (Some k)
  failure-fails k below fails = (omega arith, below, fails, λ j from less. absurd (omega arith))

  along : (k j : ℕ) → k ≤ j → From k → (k < j → From j) → From j
  along k j from here later = elim (cases_lt k j) [ inl less ↦ later less | inr same ↦ (let is : k ≡ j = omega arith in subst From is here) ]

  pub failure-passes : (k : ℕ) → From k → (failure : Option ℕ) → IsFirstFailureFrom (suc k) n From failure → IsFirstFailureFrom k n From failure
  failure-passes k here None h = λ i from below. along k i from here (λ less. h i (omega arith) below)
  failure-passes k here (Some i) h = (let low = h.0 in omega arith, h.1, h.2, λ j from less. along k j from here (λ more. h.3 j (omega arith) less))

  pub failure-all : (failure : Option ℕ) → IsFirstFailureFrom 0 n From failure → IsFirstFailure n From failure
  failure-all None h = λ i below. h i (omega arith) below
  failure-all (Some i) h = (h.1, h.2, λ j less. h.3 j (omega arith) less)

-- what is found holds of another sentence that says the same of each position
pub failure-as : (n m : ℕ) (From Other : ℕ → Type 0) → n ≡ m → ((i : ℕ) → i < m → From i → Other i) → ((i : ℕ) → i < m → Other i → From i) → (failure : Option ℕ) → IsFirstFailure n From failure → IsFirstFailure m Other failure
failure-as n m From Other same to from None h = λ i below. to i below (h i (omega arith))
failure-as n m From Other same to from (Some i) h = (let low = h.0 in let low' : i < m = omega arith in (low', λ other. h.1 (from i low' other), λ j less. to j (omega arith) (h.2 j less)))

pub invariance-as : {S : Type 0} (p : S → Bool) (o : Observation S) (flags : List Bool) → AreFlags p o flags → (failure : Option ℕ) → IsFirstFailure (length flags) (λ i. slice_get flags i ≡ Some true) failure → IsFirstFailure (suc (last o)) (HoldsAt p o) failure
invariance-as p o flags shown failure h = failure-as (length flags) (suc (last o)) (λ i. slice_get flags i ≡ Some true) (HoldsAt p o) shown.long
    (λ i below is. same_Some (p (state_at o i)) true (sym (shown.each i (omega arith)) ∙ is))
    (λ i below is. shown.each i (omega arith) ∙ ap Some is)
    failure h

-- the greatest of the counts ahead before the next barred position
pub record IsMostAhead (barred : List Bool) (counts : List ℕ) (k most : ℕ) : Type 0 where
  pub reached : (most ≡ 0) ⊎ ((j : ℕ) × (k ≤ j) × (j < length counts) × IsOpen barred k j × (slice_index counts j ≡ most))
  pub above : (j : ℕ) → k ≤ j → j < length counts → IsOpen barred k j → slice_index counts j ≤ most

pub ahead-none : (barred : List Bool) (counts : List ℕ) → IsMostAhead barred counts (length counts) 0
ahead-none barred counts = record { reached = inl refl; above = λ j from below free. absurd (omega arith) }

pub ahead-barred : (barred : List Bool) (counts : List ℕ) (k : ℕ) → IsBarred barred k → IsMostAhead barred counts k 0
ahead-barred barred counts k is = record { reached = inl refl; above = λ j from below free. absurd (free k (omega arith) from is) }

pub ahead-open : (barred : List Bool) (counts : List ℕ) (k most m : ℕ) → k < length counts → ¬ (IsBarred barred k) → most ≤ m → slice_index counts k ≤ m → (m ≡ most) ⊎ (m ≡ slice_index counts k) → IsMostAhead barred counts (suc k) most → IsMostAhead barred counts k m
ahead-open barred counts k most m below none least own either h = record {
  reached = reach either h.reached;
  above = λ j from within free. elim (cases_lt k j) [
    | inl less ↦ (let up = h.above j (omega arith) within (λ i low high. free i (omega arith) high) in omega arith)
    | inr same ↦ (let is : k ≡ j = omega arith in subst (λ i. slice_index counts i ≤ m) is own)
  ];
}
  where
    here : (i j : ℕ) → i ≡ j → k ≤ i → j ≤ k → ¬ (IsBarred barred i)
    here i j e low high = λ is. none (let same : i ≡ k = omega arith in subst (λ x. IsBarred barred x) same is)

    only : IsOpen barred k k
    only i low high = λ is. none (let same : i ≡ k = omega arith in subst (λ x. IsBarred barred x) same is)

    wider : (j : ℕ) → IsOpen barred (suc k) j → IsOpen barred k j
    wider j free i low high = elim (cases_lt k i) [
      | inl less ↦ free i (omega arith) high
      | inr same ↦ (λ is. none (let e : i ≡ k = omega arith in subst (λ x. IsBarred barred x) e is))
    ]

    reach : (m ≡ most) ⊎ (m ≡ slice_index counts k) → (most ≡ 0) ⊎ ((j : ℕ) × (suc k ≤ j) × (j < length counts) × IsOpen barred (suc k) j × (slice_index counts j ≡ most)) → (m ≡ 0) ⊎ ((j : ℕ) × (k ≤ j) × (j < length counts) × IsOpen barred k j × (slice_index counts j ≡ m))
    reach (inr is) r = inr (k, omega arith, below, only, sym is)
    reach (inl is) (inl z) = inl (is ∙ z)
    reach (inl is) (inr r) = inr (r.0, (let low = r.1 in omega arith), r.2, wider r.0 r.3, r.4 ∙ sym is)

-- a position from which the response fails, and one from which it doesn't
pub responds-not : (premise target : List Bool) (bounds : List ℤ) (counts : List ℕ) (k most : ℕ) (bound : ℤ) → k < length counts → slice_get premise k ≡ Some true → slice_get bounds k ≡ Some bound → ¬ (IsBarred target k) → IsMostAhead target counts k most → at_least_zero bound ≤ most → Responds premise target bounds counts k → ⊥
responds-not premise target bounds counts k most bound below is at_k none h le responds = no h.reached
  where
    only : IsOpen target k k
    only i low high = λ barred. none (let same : i ≡ k = omega arith in subst (λ x. IsBarred target x) same barred)

    no : (most ≡ 0) ⊎ ((j : ℕ) × (k ≤ j) × (j < length counts) × IsOpen target k j × (slice_index counts j ≡ most)) → ⊥
    no (inl z) = (let less = responds.fewer is bound at_k k (omega arith) below only in omega arith)
    no (inr r) = (let less = responds.fewer is bound at_k r.0 r.1 r.2 r.3 in let e = r.4 in omega arith)

pub responds-more : (premise target : List Bool) (bounds : List ℤ) (counts : List ℕ) (k most : ℕ) (bound : ℤ) → slice_get bounds k ≡ Some bound → IsMostAhead target counts k most → (slice_get premise k ≡ Some true → ¬ (IsBarred target k) → most < at_least_zero bound) → Responds premise target bounds counts k
responds-more premise target bounds counts k most bound at_k h more = record {
  fewer = λ is other at_other j from below free.
      let same : bound ≡ other = same_Some bound other (sym at_k ∙ at_other) in
      let up = h.above j from below free in
      let less = more is (free k (omega arith) from) in
      subst (λ b. slice_index counts j < at_least_zero b) same (omega arith);
}

-- fewer rounds are there where more are
prefix : {S : Type 0} (o : Observation S) (m n k l : ℕ) → m ≤ n → Rounds o n k l → (x : ℕ) × (x ≤ l) × Rounds o m k x
prefix o zero n k l le rounds = (k, rounds-up o n k l rounds, refl)
prefix o (suc m) zero k l le rounds = absurd (omega arith)
prefix o (suc m) (suc n) k l le rounds = let rest = prefix o m n rounds.0 l (omega arith) rounds.2 in (rest.0, rest.1, (rounds.0, rounds.1, rest.2))

pub bool-cases : (b : Bool) → (b ≡ true) ⊎ (b ≡ false)
bool-cases true = inl refl
bool-cases false = inr refl

-- the greatest count ahead, one position back
pub ahead-step : (target : List Bool) (counts : List ℕ) (k p most m : ℕ) (d : Bool) → p ≡ suc k → k < length counts → length target ≡ length counts → m ≡ (if get_or target k d then 0 else max most (slice_index counts k)) → IsMostAhead target counts p most → IsMostAhead target counts k m
ahead-step target counts k p most m d is below long value h =
    go (get_or target k d) (slice_get-get_or target k d (omega arith)) value (subst (λ i. IsMostAhead target counts i most) is h)
  where
    go : (t : Bool) → slice_get target k ≡ Some t → m ≡ (if t then 0 else max most (slice_index counts k)) → IsMostAhead target counts (suc k) most → IsMostAhead target counts k m
    go true at_k v later = subst (λ x. IsMostAhead target counts k x) (sym v) (ahead-barred target counts k at_k)
    go false at_k v later = ahead-open target counts k most m below (λ barred. (let clash : false ≡ true = same_Some false true (sym at_k ∙ barred) in cc))
        (let up = le-max_left most (slice_index counts k) in omega arith)
        (let up = le-max_right most (slice_index counts k) in omega arith)
        (elim (cases_lt most (slice_index counts k)) [
          | inl less ↦ inr (v ∙ max-eq_right (omega arith))
          | inr more ↦ inl (v ∙ max-eq_left more)
        ])
        later

module _ (premise target : List Bool) (bounds : List ℤ) (counts : List ℕ) (k m : ℕ) (d f : Bool) (z : ℤ)
    (below : k < length counts) (ps : length premise ≡ length counts) (ts : length target ≡ length counts) (bs : length bounds ≡ length counts)
    (h : IsMostAhead target counts k m) where
  pub missed : (get_or premise k d ≡ true) × (get_or target k f ≡ false) × (at_least_zero (get_or bounds k z) ≤ m) → Responds premise target bounds counts k → ⊥
  missed is = responds-not premise target bounds counts k m (get_or bounds k z) below
      (slice_get-get_or premise k d (omega arith) ∙ ap Some is.0)
      (slice_get-get_or bounds k z (omega arith))
      (λ barred. (let clash : false ≡ true = sym is.1 ∙ same_Some (get_or target k f) true (sym (slice_get-get_or target k f (omega arith)) ∙ barred) in cc))
      h is.2

  pub met : (((get_or premise k d ≡ true) × (get_or target k f ≡ false) × (at_least_zero (get_or bounds k z) ≤ m)) → ⊥) → Responds premise target bounds counts k
  met isnt = responds-more premise target bounds counts k m (get_or bounds k z) (slice_get-get_or bounds k z (omega arith)) h (λ is none.
      let now : get_or premise k d ≡ true = same_Some (get_or premise k d) true (sym (slice_get-get_or premise k d (omega arith)) ∙ is) in
      let off : get_or target k f ≡ false = off_of (get_or target k f) (slice_get-get_or target k f (omega arith)) none in
      elim (cases_lt m (at_least_zero (get_or bounds k z))) [ inl less ↦ less | inr more ↦ absurd (isnt (now, off, more)) ])
    where
      off_of : (t : Bool) → slice_get target k ≡ Some t → ¬ (IsBarred target k) → t ≡ false
      off_of true at_k none = absurd (none at_k)
      off_of false at_k none = refl

module _ {S : Type 0} (o : Observation S) (p q : S → Bool) (e : S → ℤ) (premise target : List Bool) (bounds : List ℤ) (counts : List ℕ)
    (long : length counts ≡ suc (last o)) (ps : AreFlags p o premise) (qs : AreFlags q o target) (es : AreValues e o bounds)
    (greatest : AreGreatestOpen o target counts) where
  seek : (d i : ℕ) → ((m : ℕ) × (i ≤ m) × (m < i + d) × HoldsAt q o m) ⊎ ((m : ℕ) → i ≤ m → m < i + d → ¬ (HoldsAt q o m))
  seek zero i = inr (λ m low high. absurd (omega arith))
  seek (suc d) i = elim (bool-cases (q (state_at o i))) [
    | inl now ↦ inl (i, omega arith, omega arith, now)
    | inr off ↦ elim (seek d (suc i)) [
      | inl found ↦ (let low = found.1 in let high = found.2 in inl (found.0, omega arith, omega arith, found.3))
      | inr none ↦ inr (λ m low high holds. elim (cases_lt i m) [
        | inl less ↦ none m (omega arith) (omega arith) holds
        | inr same ↦ (let is : m ≡ i = omega arith in let at_i : q (state_at o i) ≡ true = subst (λ x. q (state_at o x) ≡ true) is holds in cc)
      ])
    ]
  ]

  barred-holds : (m : ℕ) → m ≤ last o → IsBarred target m → HoldsAt q o m
  barred-holds m le is = same_Some (q (state_at o m)) true (sym (qs.each m le) ∙ is)

  holds-barred : (m : ℕ) → m ≤ last o → HoldsAt q o m → IsBarred target m
  holds-barred m le is = qs.each m le ∙ ap Some is

  barred-within : (m : ℕ) → IsBarred target m → m ≤ last o
  barred-within m is = let less = slice_get_within target m true is in let size = qs.long in omega arith

  rounds-within : (n k l : ℕ) → k ≤ last o → Rounds o n k l → l ≤ last o
  rounds-within zero k l le same = omega (arith, same)
  rounds-within (suc n) k l le rounds = rounds-within n rounds.0 l rounds.1.within rounds.2

  in-numbers : (i : ℕ) → i < suc (last o) → RespondsFrom p q e o i → Responds premise target bounds counts i
  in-numbers i below responds = record {
    fewer = λ is bound at_i k from within free.
        let same : bound ≡ e (state_at o i) = same_Some bound (e (state_at o i)) (sym at_i ∙ es.each i (omega arith)) in
        let holds : HoldsAt p o i = same_Some (p (state_at o i)) true (sym (ps.each i (omega arith)) ∙ is) in
        elim (cases_lt (slice_index counts k) (at_least_zero bound)) [
          | inl less ↦ less
          | inr more ↦ absurd (clash k from (omega arith) free holds (subst (λ b. at_least_zero b ≤ slice_index counts k) same more))
        ];
  }
    where
      clash : (k : ℕ) → i ≤ k → k ≤ last o → IsOpen target i k → HoldsAt p o i → at_least_zero (e (state_at o i)) ≤ slice_index counts k → ⊥
      clash k from within free holds le =
          let some = (greatest.greatest k within (free k from (omega arith))).exist in
          let part = prefix o (at_least_zero (e (state_at o i))) (slice_index counts k) k some.0 le some.1 in
          let reached = responds holds k part.0 from within part.2 in
          let inside = rounds-within (at_least_zero (e (state_at o i))) k part.0 within part.2 in
          let low = reached.1 in
          let high = reached.2 in
          let short = part.1 in
          let is : IsBarred target reached.0 = holds-barred reached.0 (omega arith) reached.3 in
          elim (cases_lt reached.0 k) [
            | inl before ↦ free reached.0 low (omega arith) is
            | inr behind ↦ some.2 reached.0 behind (omega arith) is
          ]

  from-numbers : (i : ℕ) → i < suc (last o) → Responds premise target bounds counts i → RespondsFrom p q e o i
  from-numbers i below responds = λ holds k l from within rounds.
      let up = rounds-up o (at_least_zero (e (state_at o i))) k l rounds in
      let d : ℕ = suc l - i in
      elim (seek d i) [
        | inl found ↦ (let high = found.2 in (found.0, found.1, omega arith, found.3))
        | inr none ↦ absurd (
            let free : IsOpen target i k = λ m low high is. none m low (omega arith) (barred-holds m (barred-within m is) is) in
            let later : IsOpen target k l = λ m low high is. none m (omega arith) (omega arith) (barred-holds m (barred-within m is) is) in
            let most = (greatest.greatest k within (free k from (omega arith))).most (at_least_zero (e (state_at o i))) l rounds later in
            let fewer = responds.fewer (ps.each i (omega arith) ∙ ap Some holds) (e (state_at o i)) (es.each i (omega arith)) k from (omega arith) free in
            omega arith
            )
      ]

  pub response-as : (failure : Option ℕ) → IsFirstFailure (length counts) (Responds premise target bounds counts) failure → IsFirstFailure (suc (last o)) (RespondsFrom p q e o) failure
  response-as failure h = failure-as (length counts) (suc (last o)) (Responds premise target bounds counts) (RespondsFrom p q e o) long from-numbers in-numbers failure h
