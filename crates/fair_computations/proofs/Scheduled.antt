-- The schedule that takes the enabled name which was taken least recently is fair for ever.
use Rattle.std.proofs.Common.{◌≡◌, ℕ, zero, suc, ◌+◌, ◌-◌, ◌≤◌, ◌<◌, ◌⊎◌, inl, inr, List, [], ◌∷◌, length, Bool, true, false, IsTrue, arith, refl, sym, subst, ap, ◌∙◌}
use Rattle.std.specs.Prelude.{◌==◌}
use Rattle.std.proofs.lemmas.Bool.Decides.{nat_tests}
use native.Mathlib.Decide.{dec_le}
use Rattle.std.specs.declared.option.Option.{Option}
use Rattle.std.specs.declared.option.Option.TheVariants.{Some, None}
use Rattle.observations.proofs.Queue.{elem, one_if, true_or_false, picked_elem, elem-rotated, length-rotated}
use Rattle.observations.proofs.Schedule.{Turn, chosen, turn, turn_at, count, Taken, elem_turn, length_turn, served_often, turn_more, count_more, disabled_before, enabled_counts}

-- the numbers below n
abbrev pub down : ℕ → List ℕ
down zero = []
down (suc n) = n ∷ down n

pub down_elem : (x n : ℕ) → x < n → IsTrue (elem x (down n))
down_elem x zero h = absurd (omega arith)
down_elem x (suc n) h = elim (true_or_false (n == x)) [
  | inl e ↦ rw e refl
  | inr e ↦ rw e (down_elem x n (apart n x e h))
]
  where
    apart : (n x : ℕ) → (n == x) ≡ false → x < suc n → x < n
    apart n x e h = grind (arith, nat_tests)

module _ {S : Type 0} (en : S → ℕ → Bool) (next : S → ℕ → S) where
  elem_later : (n x : ℕ) (t : Turn S) → IsTrue (elem x t.queue) → IsTrue (elem x (turn_at en next t n).queue)
  elem_later zero x t h = h
  elem_later (suc n) x t h = elem_later n x (turn en next t) (elem_turn en next x t h)

  length_later : (n : ℕ) (t : Turn S) → length (turn_at en next t n).queue ≡ length t.queue
  length_later zero t = refl
  length_later (suc n) t = length_later n (turn en next t) ∙ length_turn en next t

  -- where a turn of k steps on is one of the schedule's own
  taken_on : (x k n : ℕ) (t : Turn S) → Taken en next x (turn_at en next t k) n → (m : ℕ) × (k ≤ m) × (chosen en next (turn_at en next t m) ≡ Some x)
  taken_on x k n t taken = (k + taken.0, omega arith, subst (λ z. chosen en next z ≡ Some x) (turn_more en next k taken.0 t) taken.2)

  pub just_turns : (x k : ℕ) (t : Turn S) → IsTrue (elem x t.queue)
      → (m : ℕ) × (k ≤ m) × ((chosen en next (turn_at en next t m) ≡ Some x) ⊎ (en (turn_at en next t m).state x ≡ false))
  just_turns x k t h =
      let u = turn_at en next t k in
      let M : ℕ = length t.queue in
      let long = length_later k t in
      elim (dec_le M (count en next x u M)) [
        | yes often ↦ (let taken = taken_on x k M t (served_often en next x M M u (elem_later k x t h) (omega arith) often) in (taken.0, taken.1, inl taken.2))
        | no few ↦ (let off = disabled_before en next x M u (omega arith) in (k + off.0, omega arith, inr (subst (λ z. en z.state x ≡ false) (turn_more en next k off.0 t) off.2)))
      ]

  module _ (M : Type 0 → Type 0) (pure : (A : Type 0) → A → M A) (bind : (A B : Type 0) → M A → (A → M B) → M B) (x : ℕ) (t : Turn S)
      (again : (k : ℕ) → M ((m : ℕ) × (k ≤ m) × (en (turn_at en next t m).state x ≡ true))) where
    -- enough steps for the name to be enabled so often
    abbrev Enough : ℕ → ℕ → Type 0
    Enough k j = (n : ℕ) × (j ≤ count en next x (turn_at en next t k) n)

    once_more : (k j : ℕ) (found : Enough k j) → (m : ℕ) × (k + found.0 ≤ m) × (en (turn_at en next t m).state x ≡ true) → Enough k (suc j)
    once_more k j found on =
        let u = turn_at en next t k in
        let n = found.0 in
        let b : ℕ = on.0 - (k + n) in
        let place : k + n + b ≡ on.0 = (let h = on.1 in omega arith) in
        let there : turn_at en next (turn_at en next u n) b ≡ turn_at en next t on.0 =
        turn_more en next n b u ∙ turn_more en next k (n + b) t ∙ ap (turn_at en next t) (let e : k + (n + b) ≡ on.0 = omega arith in e) in
        let one = enabled_counts en next x b (suc b) (turn_at en next u n) (omega arith) (subst (λ z. en z.state x ≡ true) (sym there) on.2) in
        let sum = count_more en next x n (suc b) u in
        let many = found.1 in
        (n + suc b, omega arith)

    enough : (k j : ℕ) → M (Enough k j)
    enough k zero = pure (Enough k zero) (0, omega arith)
    enough k (suc j) =
        bind (Enough k j) (Enough k (suc j)) (enough k j) (λ found.
        bind ((m : ℕ) × (k + found.0 ≤ m) × (en (turn_at en next t m).state x ≡ true)) (Enough k (suc j)) (again (k + found.0)) (λ on.
        pure (Enough k (suc j)) (once_more k j found on)))

    pub fair_turns : IsTrue (elem x t.queue) → (k : ℕ) → M ((m : ℕ) × (k ≤ m) × (chosen en next (turn_at en next t m) ≡ Some x))
    fair_turns h k =
        let N : ℕ = length t.queue in
        bind (Enough k N) ((m : ℕ) × (k ≤ m) × (chosen en next (turn_at en next t m) ≡ Some x)) (enough k N) (λ found.
        pure ((m : ℕ) × (k ≤ m) × (chosen en next (turn_at en next t m) ≡ Some x)) (
        taken_on x k found.0 t (served_often en next x found.0 N (turn_at en next t k) (elem_later k x t h) (let long = length_later k t in omega arith) found.1)))
