-- What is gathered while steps are looked at, from the last on.
use Rattle.std.specs.Prelude.{ℕ, ◌<◌, ◌≤◌, List}
use Rattle.std.specs.List.{Contains}
use Rattle.temporal_goals.specs.Texts.{PlainStep}
use Rattle.cited_steps.specs.Needed.{Cites, Needs}

-- the steps from number low on have been looked at: what those among them cite that are gathered is gathered too
pub record AreGathered (steps : List PlainStep) (goals : List ℕ) (low : ℕ) (ns : List ℕ) : Type 0 where
  pub begun : (n : ℕ) → Contains goals n → Contains ns n
  pub alone : (n : ℕ) → Contains ns n → Needs steps goals n
  pub closed : (n m : ℕ) → low ≤ n → Contains ns n → Cites steps n m → Contains ns m

-- of the numbers below n those that aren't needed
pub record AreLeft (needed : List ℕ) (n : ℕ) (ns : List ℕ) : Type 0 where
  pub all : (k : ℕ) → k < n → (Contains needed k → ⊥) → Contains ns k
  pub alone : (k : ℕ) → Contains ns k → (k < n) × (Contains needed k → ⊥)
