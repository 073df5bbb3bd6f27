-- Which steps some goals need.
use Rattle.std.specs.Prelude.{◌≡◌, ◌<◌, ℕ, List, Some, length, slice_get}
use Rattle.std.specs.List.{Contains}
use Rattle.temporal_goals.specs.Texts.{PlainStep}

-- step n cites step m
abbrev pub Cites : List PlainStep → ℕ → ℕ → Type 0
Cites steps n m = (s : PlainStep) × (slice_get steps n ≡ Some s) × Contains s.cited m

-- a goal is needed, and what a needed step cites
pub data Needs (steps : List PlainStep) (goals : List ℕ) : ℕ → Type 0 where
  goal : (n : ℕ) → Contains goals n → Needs steps goals n
  cited : (n m : ℕ) → Needs steps goals n → Cites steps n m → Needs steps goals m

-- these are the steps that the goals need, and no others
pub record AreNeeded (steps : List PlainStep) (goals ns : List ℕ) : Type 0 where
  pub all : (n : ℕ) → Needs steps goals n → Contains ns n
  pub alone : (n : ℕ) → Contains ns n → Needs steps goals n

-- these are the steps that no goal needs, and no others
pub record AreUnneeded (steps : List PlainStep) (goals ns : List ℕ) : Type 0 where
  pub all : (n : ℕ) → n < length steps → (Needs steps goals n → ⊥) → Contains ns n
  pub alone : (n : ℕ) → Contains ns n → (n < length steps) × (Needs steps goals n → ⊥)
