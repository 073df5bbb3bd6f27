-- Walks along the positions of an observation.
use Rattle.std.proofs.Common.{◌≡◌, ℕ, zero, suc, ◌+◌, ◌-◌, ◌≤◌, ◌<◌, ◌⊎◌, inl, inr, List, [], ◌∷◌, length, Bool, arith, refl, sym, subst}
use Rattle.std.specs.declared.option.Option.TheVariants.{Some}
use Rattle.observations.specs.Observation.{Observation, Moment, name_at, last, IsTaken}
use Rattle.observations.specs.Goals.{HoldsBetween}

-- m is some steps on from k. To match `here` makes the positions one, and each `further` is a step to look at
pub data Reach (m : ℕ) : ℕ → Type 0 where
  here : Reach m m
  further : {k : ℕ} → Reach m (suc k) → Reach m k

reach_after : (n k m : ℕ) → k + n ≡ m → Reach m k
reach_after zero k m e = let same : k ≡ m = omega arith in subst (λ x. Reach m x) (sym same) here
reach_after (suc n) k m e = further (reach_after n (suc k) m (omega arith))

pub reach : (k m : ℕ) → k ≤ m → Reach m k
reach k m h = reach_after (m - k) k m (omega arith)

pub reach_le : {m k : ℕ} → Reach m k → k ≤ m
reach_le {m} here = omega arith
reach_le (further r) = let h = reach_le r in omega arith

-- each step has a name
named : {S : Type 0} (later : List (ℕ × Moment S)) (k : ℕ) → k < length later → (name : ℕ) × (name_at later k ≡ Some name)
named [] k h = absurd (omega arith)
named (step ∷ later) zero h = (step.0, refl)
named (step ∷ later) (suc k) h = named later k (omega arith)

-- the name of a step from a position below the end
pub name_from : {S : Type 0} (o : Observation S) (k : ℕ) → k < last o → (name : ℕ) × IsTaken o name k
name_from o k h = named o.later k h

-- a step from a position has a name only below the end
pub named_below : {S : Type 0} (later : List (ℕ × Moment S)) (k name : ℕ) → name_at later k ≡ Some name → k < length later
named_below [] k name e = cc
named_below (step ∷ later) zero name e = omega arith
named_below (step ∷ later) (suc k) name e = let h = named_below later k name e in omega arith

-- what is reached from the next position on is reached from this one on
pub from_next : {S : Type 0} (q : S → Bool) (o : Observation S) {X : Type 0} {k l : ℕ} → HoldsBetween q o (suc k) l ⊎ X → HoldsBetween q o k l ⊎ X
from_next q o (inl h) = inl (h.0, omega arith, h.2, h.3)
from_next q o (inr x) = inr x
