-- Tests that go through numbers decide what they are named after.
use Rattle.std.proofs.Common.{◌≡◌, ℕ, zero, suc, ◌+◌, ◌-◌, ◌≤◌, ◌<◌, ◌⊎◌, inl, inr, Bool, true, false, arith, refl, sym, subst, ap, ◌∙◌}
use Rattle.std.specs.Prelude.{◌&&◌, ◌||◌, ◌↔◌, not, if◌then◌else◌, Option, Some, None}
use Rattle.std.specs.Bool.{Decides}
use Rattle.std.specs.List.{list_any, list_all, find, range_with_len}
use Rattle.std.proofs.lemmas.Bool.{cases_lt}
use Rattle.std.proofs.lemmas.Bool.Decides.{Decides-and, Decides-or, Decides-like}
use Rattle.run_judging.specs.Judging.{IsFirstFailure}
use Rattle.run_judging.proofs.Sentences.{IsFirstFailureFrom, failure-none, failure-fails, failure-passes, failure-all, bool-cases}
use Rattle.judging_laws.specs.Searching.{some_between, each_between, greatest, first_failure}

-- the premise and what follows from it
pub Decides-if : {P Q : Type 0} (x y : Bool) → Decides x P → Decides y Q → Decides (if x then y else true) (P → Q)
Decides-if true y p q = (λ e h. q.0 e, λ f. q.1 (f (p.0 refl)))
Decides-if false y p q = (λ _ h. absurd (let no : false ≡ true = p.1 h in cc), λ _. refl)

pub some-range : (t : ℕ → Bool) (P : ℕ → Type 0) (k n : ℕ) → ((m : ℕ) → k ≤ m → m < k + n → Decides (t m) (P m)) → Decides (list_any t (range_with_len k n)) ((m : ℕ) × (k ≤ m) × (m < k + n) × P m)
some-range t P k zero each = (λ e. cc, λ h. let low = h.1 in let high = h.2 in absurd (omega arith))
some-range t P k (suc n) each =
    Decides-like (t k || list_any t (range_with_len (k + 1) n)) to from
    (Decides-or (t k) (list_any t (range_with_len (k + 1) n)) (each k (omega arith) (omega arith)) (some-range t P (k + 1) n (λ m low high. each m (omega arith) (omega arith))))
  where
    to : P k ⊎ ((m : ℕ) × (k + 1 ≤ m) × (m < k + 1 + n) × P m) → (m : ℕ) × (k ≤ m) × (m < k + suc n) × P m
    to (inl here) = (k, omega arith, omega arith, here)
    to (inr later) = (let low = later.1 in let high = later.2 in (later.0, omega arith, omega arith, later.3))

    from : (m : ℕ) × (k ≤ m) × (m < k + suc n) × P m → P k ⊎ ((m : ℕ) × (k + 1 ≤ m) × (m < k + 1 + n) × P m)
    from h = (
        let low = h.1 in
        let high = h.2 in
        elim (cases_lt k h.0) [
          | inl less ↦ inr (h.0, omega arith, omega arith, h.3)
          | inr same ↦ (let is : h.0 ≡ k = omega arith in inl (subst P is h.3))
        ]
        )

pub each-range : (t : ℕ → Bool) (P : ℕ → Type 0) (k n : ℕ) → ((m : ℕ) → k ≤ m → m < k + n → Decides (t m) (P m)) → Decides (list_all t (range_with_len k n)) ((m : ℕ) → k ≤ m → m < k + n → P m)
each-range t P k zero each = (λ _ m low high. absurd (omega arith), λ _. refl)
each-range t P k (suc n) each =
    Decides-like (t k && list_all t (range_with_len (k + 1) n)) to from
    (Decides-and (t k) (list_all t (range_with_len (k + 1) n)) (each k (omega arith) (omega arith)) (each-range t P (k + 1) n (λ m low high. each m (omega arith) (omega arith))))
  where
    to : P k × ((m : ℕ) → k + 1 ≤ m → m < k + 1 + n → P m) → (m : ℕ) → k ≤ m → m < k + suc n → P m
    to h m low high = elim (cases_lt k m) [
      | inl less ↦ h.1 m (omega arith) (omega arith)
      | inr same ↦ (let is : k ≡ m = omega arith in subst P is h.0)
    ]

    from : ((m : ℕ) → k ≤ m → m < k + suc n → P m) → P k × ((m : ℕ) → k + 1 ≤ m → m < k + 1 + n → P m)
    from h = (h k (omega arith) (omega arith), λ m low high. h m (omega arith) (omega arith))

pub some-between : (t : ℕ → Bool) (P : ℕ → Type 0) (k l : ℕ) → ((m : ℕ) → k ≤ m → m < l → Decides (t m) (P m)) → Decides (some_between k l t) ((m : ℕ) × (k ≤ m) × (m < l) × P m)
some-between t P k l each =
    Decides-like (some_between k l t)
    (λ (h : (m : ℕ) × (k ≤ m) × (m < k + (l - k)) × P m). let low = h.1 in let high = h.2 in (h.0, low, omega arith, h.3))
    (λ h. let low = h.1 in let high = h.2 in (h.0, low, omega arith, h.3))
    (some-range t P k (l - k) (λ m low high. each m low (omega arith)))

pub each-between : (t : ℕ → Bool) (P : ℕ → Type 0) (k l : ℕ) → ((m : ℕ) → k ≤ m → m < l → Decides (t m) (P m)) → Decides (each_between k l t) ((m : ℕ) → k ≤ m → m < l → P m)
each-between t P k l each =
    Decides-like (each_between k l t)
    (λ (h : (m : ℕ) → k ≤ m → m < k + (l - k) → P m) m low high. h m low (omega arith))
    (λ h m low high. h m low (omega arith))
    (each-range t P k (l - k) (λ m low high. each m low (omega arith)))

-- the greatest number passes, and none that passes is greater
pub greatest-passes : (n : ℕ) (t : ℕ → Bool) → t 0 ≡ true → t (greatest n t) ≡ true
greatest-passes zero t some = some
greatest-passes (suc n) t some = elim (bool-cases (t (suc n))) [
  | inl now ↦ rw now now
  | inr off ↦ rw off (greatest-passes n t some)
]

pub greatest-most : (n : ℕ) (t : ℕ → Bool) (m : ℕ) → m ≤ n → t m ≡ true → m ≤ greatest n t
greatest-most zero t m le passes = le
greatest-most (suc n) t m le passes = elim (bool-cases (t (suc n))) [
  | inl now ↦ rw now le
  | inr off ↦ rw off (elim (cases_lt n m) [
    | inl last ↦ (let is : m ≡ suc n = omega arith in absurd (let on : t (suc n) ≡ true = subst (λ x. t x ≡ true) is passes in let no : false ≡ true = sym off ∙ on in cc))
    | inr less ↦ greatest-most n t m less passes
  ])
]

find-first : (t : ℕ → Bool) (From : ℕ → Type 0) (k n : ℕ) → ((m : ℕ) → k ≤ m → m < k + n → Decides (t m) (From m)) → IsFirstFailureFrom k (k + n) From (find (λ i. not (t i)) (range_with_len k n))
find-first t From k zero each = λ i low high. absurd (omega arith)
find-first t From k (suc n) each = elim (bool-cases (t k)) [
  | inl now ↦ rw now (
      let rest = find-first t From (k + 1) n (λ m low high. each m (omega arith) (omega arith)) in
      let same : k + 1 + n ≡ k + suc n = omega arith in
      let next : k + 1 ≡ suc k = omega arith in
      failure-passes (k + suc n) From k ((each k (omega arith) (omega arith)).0 now) (find (λ i. not (t i)) (range_with_len (k + 1) n))
      (subst (λ x. IsFirstFailureFrom x (k + suc n) From (find (λ i. not (t i)) (range_with_len (k + 1) n))) next
      (subst (λ x. IsFirstFailureFrom (k + 1) x From (find (λ i. not (t i)) (range_with_len (k + 1) n))) same rest))
      )
  | inr off ↦ rw off (failure-fails (k + suc n) From k (omega arith) (λ from. let on = (each k (omega arith) (omega arith)).1 from in let no : false ≡ true = sym off ∙ on in cc))
]

one-failure : (n : ℕ) (From : ℕ → Type 0) (a b : Option ℕ) → IsFirstFailure n From a → IsFirstFailure n From b → a ≡ b
one-failure n From None None h k = refl
one-failure n From None (Some j) h k = absurd (k.1 (h j k.0))
one-failure n From (Some i) None h k = absurd (h.1 (k i h.0))
one-failure n From (Some i) (Some j) h k = elim (cases_lt i j) [
  | inl less ↦ absurd (h.1 (k.2 i less))
  | inr more ↦ elim (cases_lt j i) [
    | inl less ↦ absurd (k.1 (h.2 j less))
    | inr same ↦ ap Some (omega arith)
  ]
]

-- the first failure of a sentence is that of a test that decides it, and nothing else is
pub first-failure : (n : ℕ) (t : ℕ → Bool) (From : ℕ → Type 0) → ((m : ℕ) → m < n → Decides (t m) (From m)) → (failure : Option ℕ) → IsFirstFailure n From failure ↔ (failure ≡ first_failure n t)
first-failure n t From each failure = (λ h. one-failure n From failure (first_failure n t) h found, λ e. subst (IsFirstFailure n From) (sym e) found)
  where
    found : IsFirstFailure n From (first_failure n t)
    found = (
        let same : 0 + n ≡ n = omega arith in
        failure-all n From (first_failure n t) (subst (λ x. IsFirstFailureFrom 0 x From (first_failure n t)) same (find-first t From 0 n (λ m low high. each m (omega arith))))
        )
