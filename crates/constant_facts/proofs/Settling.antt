-- Lists that a round leaves as they are.
use Rattle.std.proofs.Common.{cond, ◌≡◌, suc, ◌≤◌, Bool, true, false, List, [], ◌∷◌, filter, length, refl, ap, ◌∙◌, subst, arith}
use Rattle.list_laws.specs.Each.{Each}
use Rattle.control_states.specs.Control.{ControlFacts}
use Rattle.transition_system.specs.Systems.{PlainMode, System}
use Rattle.constant_facts.specs.declared.fact.Fact.{Fact}
use Rattle.constant_facts.specs.Facts.{modes_of}
use Rattle.constant_facts.specs.Greatest.{IsKeptBy}
use Rattle.constant_facts.specs.Rules.{known_at, is_kept, decided, kept_by, kept_by_all, is_first, first_of, places, narrowed}

module _ {X : Type 0} (test : X → Bool) where
  pub filter-shorter : (xs : List X) → length (filter test xs) ≤ length xs
  filter-shorter [] = omega arith
  filter-shorter (x ∷ xs) = by_test (test x) (filter-shorter xs)
    where
      by_test : (b : Bool) → length (filter test xs) ≤ length xs → length (cond b (x ∷ filter test xs) (filter test xs)) ≤ suc (length xs)
      by_test true h = omega arith
      by_test false h = omega arith

  -- a filter that keeps as many keeps all
  pub filter-all : (xs : List X) → length xs ≤ length (filter test xs) → (filter test xs ≡ xs) × Each (λ x. test x ≡ true) xs
  filter-all [] h = (refl, tt)
  filter-all (x ∷ xs) h = by_test (test x) refl (λ k. filter-all xs k) h
    where
      by_test : (b : Bool) → test x ≡ b → (length xs ≤ length (filter test xs) → (filter test xs ≡ xs) × Each (λ x. test x ≡ true) xs) → suc (length xs) ≤ length (cond b (x ∷ filter test xs) (filter test xs))
          → (cond b (x ∷ filter test xs) (filter test xs) ≡ x ∷ xs) × Each (λ x. test x ≡ true) (x ∷ xs)
      by_test true e f k = let r = f (omega arith) in (ap (λ ys. x ∷ ys) r.0, (e, r.1))
      by_test false e f k = let s = filter-shorter xs in absurd (omega arith)

module _ (k : ControlFacts) where
  pub all-shorter : (ms : List PlainMode) (fs : List Fact) → length (kept_by_all k ms fs) ≤ length fs
  all-shorter [] fs = omega arith
  all-shorter (m ∷ ms) fs =
      let rest = all-shorter ms (kept_by k m fs) in
      let one = filter-shorter (is_kept (known_at m.at fs) (decided k m.at) m.change) fs in
      omega arith

  pub all-kept : (ms : List PlainMode) (fs : List Fact) → length fs ≤ length (kept_by_all k ms fs) → (kept_by_all k ms fs ≡ fs) × Each (IsKeptBy k fs) ms
  all-kept [] fs h = (refl, tt)
  all-kept (m ∷ ms) fs h =
      let rest = all-shorter ms (kept_by k m fs) in
      let one = filter-all (is_kept (known_at m.at fs) (decided k m.at) m.change) fs (omega arith) in
      let next = all-kept ms fs (subst (λ (gs : List Fact). length fs ≤ length (kept_by_all k ms gs)) one.0 h) in
      (ap (kept_by_all k ms) one.0 ∙ next.0, (one.1, next.1))

  pub narrowed-shorter : (system : System) (fs : List Fact) → length (narrowed k system fs) ≤ length fs
  narrowed-shorter system fs =
      let rest = all-shorter (modes_of system) (first_of k system.initial fs) in
      let one = filter-shorter (is_first (decided k (places system.initial)) system.initial) fs in
      omega arith

  pub narrowed-same : (system : System) (fs : List Fact) → length fs ≤ length (narrowed k system fs) → (narrowed k system fs ≡ fs)
      × (Each (λ f. is_first (decided k (places system.initial)) system.initial f ≡ true) fs × Each (IsKeptBy k fs) (modes_of system))
  narrowed-same system fs h =
      let rest = all-shorter (modes_of system) (first_of k system.initial fs) in
      let one = filter-all (is_first (decided k (places system.initial)) system.initial) fs (omega arith) in
      let next = all-kept (modes_of system) fs (subst (λ (gs : List Fact). length fs ≤ length (kept_by_all k (modes_of system) gs)) one.0 h) in
      (ap (kept_by_all k (modes_of system)) one.0 ∙ next.0, (one.1, next.1))
