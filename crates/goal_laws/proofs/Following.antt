-- Weaker formulas, larger bounds, and cases.
use Rattle.std.proofs.Common.{◌≡◌, ℕ, suc, ◌≤◌, ◌<◌, inl, inr, List, [], ◌∷◌, length, ℤ, Bool, true, false, IsTrue, arith, refl, subst, ap}
use Rattle.std.specs.Prelude.{◌==◌, ◌&&◌, ◌||◌}
use Rattle.basic_laws.proofs.Truths.{and_both, or_parts}
use Rattle.observations.specs.Observation.{Observation, state_at, last}
use Rattle.observations.specs.Goals.{level_form, at_least_zero, Invariance, Waiting, Response}
use Rattle.observations.proofs.Queue.{true_or_false}
use Rattle.goal_laws.specs.Implied.{Implies, EachImplies, AtMost}
use Rattle.goal_laws.proofs.Chaining.{rises, rounds_within, fewer, wider}

module _ {S : Type 0} (o : Observation S) where
  pub both : (p q : S → Bool) → Invariance p o → Invariance q o → Invariance (λ s. p s && q s) o
  both p q first second i within = and_both (p (state_at o i)) (q (state_at o i)) (first i within) (second i within)

  same_length : (fs gs : List (S → Bool)) → EachImplies fs gs o → length fs ≡ length gs
  same_length [] [] each = refl
  same_length [] (g ∷ gs) each = absurd each
  same_length (f ∷ fs) [] each = absurd each
  same_length (f ∷ fs) (g ∷ gs) each = ap suc (same_length fs gs each.1)

  level_implied : (fs gs : List (S → Bool)) (k level : ℕ) → k ≤ last o → EachImplies fs gs o → IsTrue (level_form fs level (state_at o k)) → IsTrue (level_form gs level (state_at o k))
  level_implied [] [] k level within each h = h
  level_implied [] (g ∷ gs) k level within each h = absurd each
  level_implied (f ∷ fs) [] k level within each h = absurd each
  level_implied (f ∷ fs) (g ∷ gs) k level within each h =
      let same = same_length fs gs each.1 in
      elim (true_or_false (level == length fs)) [
        | inl here ↦ (let there : (level == length gs) ≡ true = subst (λ n. (level == n) ≡ true) same here in rw there (each.0 k within (rw here at h)))
        | inr off ↦ (let there : (level == length gs) ≡ false = subst (λ n. (level == n) ≡ false) same off in rw there (level_implied fs gs k level within each.1 (rw off at h)))
      ]

  pub waiting : (p q : S → Bool) (forms others : List (S → Bool)) → Implies q p o → EachImplies forms others o → Waiting p forms o → Waiting q others o
  waiting p q forms others premise each waits i within holds =
      let v = waits i within (premise i within holds) in
      let same = same_length forms others each in
      record {
        level = v.level;
        first = subst (λ n. v.level i < n) same v.first;
        falls = v.falls;
        above = λ k from inside up. level_implied forms others k (v.level k) inside each (v.above k from inside up);
        begin = λ k from inside none before. level_implied forms others k 0 inside each (v.begin k from inside none before);
      }

  pub response : (p q x y : S → Bool) (d e : S → ℤ) → Implies x p o → Implies q y o → AtMost x d e o → Response p q d o → Response x y e o
  response p q x y d e premise target bound responds i within holds k l from inside rounds =
      let s = state_at o i in
      let many = rises (d s) (e s) (bound i within holds) in
      let some = fewer o (at_least_zero (d s)) (at_least_zero (e s)) k l many rounds in
      let found = responds i within (premise i within holds) k some.0 from inside some.2 in
      wider o y i i some.0 l (omega arith) some.1 (found.0, found.1, found.2, target found.0 (let end = rounds_within o (at_least_zero (d s)) k some.0 inside some.2 in let to = found.2 in omega arith) found.3)

  pub by_cases : (p q r : S → Bool) (e : S → ℤ) → Response p r e o → Response q r e o → Response (λ s. p s || q s) r e o
  by_cases p q r e first second i within holds = elim (or_parts (p (state_at o i)) (q (state_at o i)) holds) [
    | inl h ↦ first i within h
    | inr h ↦ second i within h
  ]
