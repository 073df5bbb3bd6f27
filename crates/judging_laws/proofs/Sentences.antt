-- The tests of sentences decide them.
use Rattle.std.proofs.Common.{◌≡◌, ℕ, zero, suc, ◌+◌, ◌-◌, ◌≤◌, ◌<◌, ◌⊎◌, inl, inr, List, [], ◌∷◌, length, Bool, true, false, ℤ, arith, refl, sym, subst, ap, ◌∙◌}
use Rattle.std.specs.Prelude.{if◌then◌else◌, ◌↔◌, Option}
use Rattle.std.specs.Bool.{Decides}
use Rattle.std.proofs.lemmas.Bool.{cases_lt}
use Rattle.std.proofs.lemmas.Bool.Decides.{Decides-like}
use Rattle.observations.specs.Observation.{Observation, state_at, last}
use Rattle.observations.specs.Rounds.{Rounds}
use Rattle.observations.specs.Goals.{HoldsAt, HoldsBetween, LevelsFrom, at_least_zero, WaitsFrom, RespondsFrom}
use Rattle.run_judging.specs.Judging.{IsFirstFailure}
use Rattle.judging_laws.specs.Searching.{some_between, each_between, first_failure}
use Rattle.judging_laws.specs.Counted.{has_rounds}
use Rattle.judging_laws.specs.Sentences.{holds_at, has_levels, waits_from, responds_from}
use Rattle.judging_laws.proofs.Searching.{Decides-if, some-between, each-between, first-failure}
use Rattle.judging_laws.proofs.Counted.{rounds-decide, rounds-up, rounds-within}
use Rattle.judging_laws.proofs.Levels.{levels-found, levels-tested, no-levels}

pub holds-decides : {S : Type 0} (p : S → Bool) (o : Observation S) (i : ℕ) → Decides (holds_at p o i) (HoldsAt p o i)
unfolding holds_at
holds-decides p o i = (λ e. e, λ e. e)

levels-decide : {S : Type 0} (o : Observation S) (forms : List (S → Bool)) (i : ℕ) → i ≤ last o → Decides (has_levels o forms (suc (last o) - i) i (length forms - 1)) (LevelsFrom o forms i)
levels-decide o forms i within = (to (cases_lt 0 (length forms)), λ v. let first = v.first in levels-tested o forms (suc (last o) - i) i (length forms - 1) (omega arith) v (omega arith))
  where
    to : (0 < length forms) ⊎ (length forms ≤ 0) → has_levels o forms (suc (last o) - i) i (length forms - 1) ≡ true → LevelsFrom o forms i
    to (inl some) h = (levels-found o forms (suc (last o) - i) i (length forms - 1) (omega arith) (omega arith) h).0
    to (inr none) h = absurd (no-levels o forms (suc (last o) - i) i (length forms - 1) (omega arith) (omega arith) h)

pub waiting-decides : {S : Type 0} (p : S → Bool) (forms : List (S → Bool)) (o : Observation S) (i : ℕ) → i ≤ last o → Decides (waits_from p forms o i) (WaitsFrom p forms o i)
unfolding waits_from
waiting-decides p forms o i within = Decides-if (p (state_at o i)) (has_levels o forms (suc (last o) - i) i (length forms - 1)) (λ e. e, λ e. e) (levels-decide o forms i within)

module _ {S : Type 0} (p q : S → Bool) (e : S → ℤ) (o : Observation S) (i : ℕ) where
  abbrev allowed : ℕ
  allowed = at_least_zero (e (state_at o i))

  abbrev reached : ℕ → Bool
  reached l = some_between i (suc l) (λ m. q (state_at o m))

  between-decides : (l : ℕ) → Decides (reached l) (HoldsBetween q o i l)
  between-decides l = Decides-like (reached l)
      (λ (h : (m : ℕ) × (i ≤ m) × (m < suc l) × HoldsAt q o m). let high = h.2 in (h.0, h.1, omega arith, h.3))
      (λ h. let high = h.2 in (h.0, h.1, omega arith, h.3))
      (some-between (λ m. q (state_at o m)) (HoldsAt q o) i (suc l) (λ m _ _. (λ e. e, λ e. e)))

  abbrev Reaches : ℕ → ℕ → Type 0
  Reaches k l = Rounds o allowed k l → HoldsBetween q o i l

  ends-decide : (k : ℕ) → Decides (each_between k (suc (last o)) (λ l. if has_rounds o allowed k l then reached l else true)) ((l : ℕ) → k ≤ l → l < suc (last o) → Reaches k l)
  ends-decide k = each-between (λ l. if has_rounds o allowed k l then reached l else true) (Reaches k) k (suc (last o))
      (λ l _ _. Decides-if (has_rounds o allowed k l) (reached l) (rounds-decide o allowed k l) (between-decides l))

  pub response-decides : Decides (responds_from p q e o i) (RespondsFrom p q e o i)
  unfolding responds_from
  response-decides =
      Decides-like (responds_from p q e o i)
      (λ (h : HoldsAt p o i → (k : ℕ) → i ≤ k → k < suc (last o) → (l : ℕ) → k ≤ l → l < suc (last o) → Reaches k l) holds k l from within rounds.
      let up = rounds-up o allowed k l rounds in
      let inside = rounds-within o allowed k l within rounds in
      h holds k from (omega arith) l (omega arith) (omega arith) rounds)
      (λ h holds k from below l up inside rounds. h holds k l from (omega arith) rounds)
      (Decides-if (p (state_at o i)) (each_between i (suc (last o)) (λ k. each_between k (suc (last o)) (λ l. if has_rounds o allowed k l then reached l else true))) (λ e. e, λ e. e)
      (each-between (λ k. each_between k (suc (last o)) (λ l. if has_rounds o allowed k l then reached l else true)) (λ k. (l : ℕ) → k ≤ l → l < suc (last o) → Reaches k l) i (suc (last o)) (λ k _ _. ends-decide k)))

pub invariance-fails : {S : Type 0} (p : S → Bool) (o : Observation S) (failure : Option ℕ) → IsFirstFailure (suc (last o)) (HoldsAt p o) failure ↔ (failure ≡ first_failure (suc (last o)) (holds_at p o))
invariance-fails p o failure = first-failure (suc (last o)) (holds_at p o) (HoldsAt p o) (λ i _. holds-decides p o i) failure

pub waiting-fails : {S : Type 0} (p : S → Bool) (forms : List (S → Bool)) (o : Observation S) (failure : Option ℕ) → IsFirstFailure (suc (last o)) (WaitsFrom p forms o) failure ↔ (failure ≡ first_failure (suc (last o)) (waits_from p forms o))
waiting-fails p forms o failure = first-failure (suc (last o)) (waits_from p forms o) (WaitsFrom p forms o) (λ i below. waiting-decides p forms o i (omega arith)) failure

pub response-fails : {S : Type 0} (p q : S → Bool) (e : S → ℤ) (o : Observation S) (failure : Option ℕ) → IsFirstFailure (suc (last o)) (RespondsFrom p q e o) failure ↔ (failure ≡ first_failure (suc (last o)) (responds_from p q e o))
response-fails p q e o failure = first-failure (suc (last o)) (responds_from p q e o) (RespondsFrom p q e o) (λ i _. response-decides p q e o i) failure
