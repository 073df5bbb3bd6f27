-- What holds from a position of a run held from it on each beginning of the run that has the position.
use Rattle.std.proofs.Common.{◌≡◌, ℕ, zero, suc, ◌≤◌, ◌<◌, inl, inr, List, [], ◌∷◌, ◌++◌, length, length-append, ℤ, Bool, IsTrue, true, arith, refl, sym, subst, ap, ◌∙◌}
use Rattle.std.specs.Prelude.{slice_get}
use Rattle.std.specs.declared.option.Option.TheVariants.{Some}
use Rattle.observations.specs.Observation.{Moment, Observation, moment_after, name_at, state_at, last, IsEnabled}
use Rattle.observations.specs.Rounds.{Round, Rounds}
use Rattle.observations.specs.Goals.{level_form, at_least_zero, HoldsAt, HoldsBetween, WaitsFrom, RespondsFrom}
use Rattle.observations.specs.Extension.{extended}
use Rattle.goal_laws.proofs.Chaining.{rounds_within}

first_moment : {S : Type 0} (m : Moment S) (extra : List (ℕ × Moment S)) → moment_after m extra 0 ≡ m
first_moment m [] = refl
first_moment m (x ∷ extra) = refl

same_moment : {S : Type 0} (m : Moment S) (later extra : List (ℕ × Moment S)) (k : ℕ) → k ≤ length later → moment_after m (later ++ extra) k ≡ moment_after m later k
same_moment m [] extra zero h = first_moment m extra
same_moment m [] extra (suc k) h = absurd (omega arith)
same_moment m (x ∷ later) extra zero h = refl
same_moment m (x ∷ later) extra (suc k) h = same_moment x.1 later extra k (omega arith)

same_name : {S : Type 0} (later extra : List (ℕ × Moment S)) (k : ℕ) → k < length later → name_at (later ++ extra) k ≡ name_at later k
same_name [] extra k h = absurd (omega arith)
same_name (x ∷ later) extra zero h = refl
same_name (x ∷ later) extra (suc k) h = same_name later extra k (omega arith)

module _ {S : Type 0} (o : Observation S) (extra : List (ℕ × Moment S)) where
  abbrev longer : Observation S
  longer = extended o extra

  longer_last : last o ≤ last longer
  longer_last = let sum = length-append o.later extra in omega arith

  same_state : (k : ℕ) → k ≤ last o → state_at longer k ≡ state_at o k
  same_state k h = ap (λ m. m.state) (same_moment o.first o.later extra k h)

  enabled_in_longer : (name k : ℕ) → k ≤ last o → IsEnabled longer name k → IsEnabled o name k
  enabled_in_longer name k h on = subst (λ m. slice_get m.enabled name ≡ Some true) (same_moment o.first o.later extra k h) on

  round : (k l : ℕ) → Round o k l → Round longer k l
  round k l r = record {
    ahead = r.ahead;
    within = (let most = r.within in let long = longer_last in omega arith);
    just = λ name is. elim (r.just name is) [
      | inl t ↦ inl (t.0, t.1, t.2, same_name o.later extra t.0 (let most = r.within in let below = t.2 in omega arith) ∙ t.3)
      | inr off ↦ inr (off.0, off.1, off.2, λ on. off.3 (enabled_in_longer name off.0 (let most = r.within in let to = off.2 in omega arith) on))
    ];
    compassionate = λ name is. elim (r.compassionate name is) [
      | inl t ↦ inl (t.0, t.1, t.2, same_name o.later extra t.0 (let most = r.within in let below = t.2 in omega arith) ∙ t.3)
      | inr never ↦ inr (λ m from to on. never m from to (enabled_in_longer name m (let most = r.within in omega arith) on))
    ];
  }

  rounds : (n k l : ℕ) → Rounds o n k l → Rounds longer n k l
  rounds zero k l same = same
  rounds (suc n) k l many = (many.0, round k many.0 many.1, rounds n many.0 l many.2)

  pub invariance : (p : S → Bool) (i : ℕ) → i ≤ last o → HoldsAt p longer i → HoldsAt p o i
  invariance p i h holds = subst (λ s. IsTrue (p s)) (same_state i h) holds

  there : (p : S → Bool) (i : ℕ) → i ≤ last o → HoldsAt p o i → HoldsAt p longer i
  there p i h holds = subst (λ s. IsTrue (p s)) (sym (same_state i h)) holds

  pub waiting : (p : S → Bool) (forms : List (S → Bool)) (i : ℕ) → i ≤ last o → WaitsFrom p forms longer i → WaitsFrom p forms o i
  waiting p forms i h waits holds =
      let v = waits (there p i h holds) in
      let long = longer_last in
      record {
        level = v.level;
        first = v.first;
        falls = λ k from below. v.falls k from (omega arith);
        above = λ k from inside up. invariance (level_form forms (v.level k)) k inside (v.above k from (omega arith) up);
        begin = λ k from inside none before. invariance (level_form forms 0) k inside (v.begin k from (omega arith) none before);
      }

  pub response : (p q : S → Bool) (e : S → ℤ) (i : ℕ) → i ≤ last o → RespondsFrom p q e longer i → RespondsFrom p q e o i
  response p q e i h responds holds k l from inside many =
      let n : ℕ = at_least_zero (e (state_at o i)) in
      let long = longer_last in
      let end = rounds_within o n k l inside many in
      let there_many = subst (λ s. Rounds longer (at_least_zero (e s)) k l) (sym (same_state i h)) (rounds n k l many) in
      let found : HoldsBetween q longer i l = responds (there p i h holds) k l from (omega arith) there_many in
      (found.0, found.1, found.2, invariance q found.0 (let to = found.2 in omega arith) found.3)
