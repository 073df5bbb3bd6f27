-- What the three kinds of goal say of an infinite sequence of states: the books' own sentences, with no end and no rounds.
--
-- They are those of Manna and Pnueli, *Temporal Verification of Reactive Systems: Safety*, sections 1.1 and 3.3, and
-- *Progress*, chapter 1.
use Rattle.std.specs.Prelude.{◌≡◌, ℕ, suc, ◌≤◌, ◌<◌, List, length, Bool, IsTrue}
use Rattle.observations.specs.Goals.{level_form}
use Rattle.fair_computations.specs.Fair.{Eventually}

-- the state formula holds in the state at the position
abbrev pub TrueAt : {S : Type 0} → (S → Bool) → (ℕ → S) → ℕ → Type 0
TrueAt p state i = IsTrue (p (state i))

-- p holds at every position
abbrev pub InvarianceOf : {S : Type 0} → (S → Bool) → (ℕ → S) → Type 0
InvarianceOf p state = (i : ℕ) → TrueAt p state i

-- each position with p is followed by one with q, or has q itself
abbrev pub ResponseOf : {S : Type 0} → (S → Bool) → (S → Bool) → (ℕ → S) → Type 0
ResponseOf p q state = (i : ℕ) → TrueAt p state i → (m : ℕ) × (i ≤ m) × TrueAt q state m

-- the same with "eventually"
abbrev pub EventuallyResponds : {S : Type 0} → (S → Bool) → (S → Bool) → (ℕ → S) → Type 0
EventuallyResponds p q state = (i : ℕ) → TrueAt p state i → Eventually (TrueAt q state) i

-- levels for all positions from i on: they never rise, the first is one of the formulas', a position of a level above 0
-- has its formula, and so has the first position of level 0. Behind that nothing is asked
pub record EndlessLevels {S : Type 0} (state : ℕ → S) (forms : List (S → Bool)) (i : ℕ) : Type 0 where
  pub level : ℕ → ℕ
  pub first : level i < length forms
  pub falls : (k : ℕ) → i ≤ k → level (suc k) ≤ level k
  pub above : (k : ℕ) → i ≤ k → 0 < level k → IsTrue (level_form forms (level k) (state k))
  pub begin : (k : ℕ) → i ≤ k → level k ≡ 0 → ((x : ℕ) → i ≤ x → x < k → 0 < level x) → IsTrue (level_form forms 0 (state k))

-- where p holds, the formulas hold in turn from there on
abbrev pub WaitingOf : {S : Type 0} → (S → Bool) → List (S → Bool) → (ℕ → S) → Type 0
WaitingOf p forms state = (i : ℕ) → TrueAt p state i → EndlessLevels state forms i
