-- Infinite runs of a program, and what is seen of them.
--
-- They are the computations of Manna and Pnueli, *Temporal Verification of Reactive Systems: Safety*, section 0.1, with the
-- name of each step. What is seen at a position is what is seen of the state there, as for finite runs.
use Rattle.std.specs.Prelude.{◌≡◌, ℕ, zero, suc, List, [], ◌∷◌, length, map}
use Rattle.st_form.specs.Formula.{Formula, Situation}
use Rattle.st_form.specs.declared.conditions.TransName.{TransName}
use Rattle.st_program.specs.Tree.{Processes}
use Rattle.spl_semantics.specs.Names.{all_names}
use Rattle.spl_semantics.specs.Runs.{State, IsFirst, Leads, IsSeen, place_of}
use Rattle.fair_computations.specs.Computations.{Computation, seen_at}
use Rattle.fair_computations.specs.Fair.{IsFairByTheBooks, IsFairClassically}

-- the computation is what is seen of an infinite run of the program: it begins in a first state, and from each position a
-- step of the name leads to the next
pub record IsComputationOf (p : Processes) (initial : Formula) (c : Computation Situation) : Type 0 where
  pub state : ℕ → State
  pub name : ℕ → TransName
  pub first : IsFirst p initial (state 0)
  pub leads : (k : ℕ) → Leads p (state k) (name k) (state (suc k))
  pub fairness_is : c.fairness ≡ map (λ n. n.1) (all_names p)
  pub seen : (k : ℕ) → IsSeen p (state k) (seen_at c k)
  pub name_is : (k : ℕ) → c.name k ≡ place_of p (name k)

-- the n steps from position k on: the name of each, and the state behind it
abbrev pub steps_along : (ℕ → State) → (ℕ → TransName) → ℕ → ℕ → List (TransName × State)
steps_along state name k zero = []
steps_along state name k (suc n) = (name k, state (suc k)) ∷ steps_along state name (suc k) n

-- the run from s goes on for ever, and the infinite run is fair
pub record GoesOnFairly (p : Processes) (initial : Formula) (s : State) (later : List (TransName × State)) : Type 0 where
  pub computation : Computation Situation
  pub runs : IsComputationOf p initial computation
  pub begins : runs.state 0 ≡ s
  pub follows : steps_along runs.state runs.name 0 (length later) ≡ later
  pub fair : IsFairByTheBooks computation
  pub fair_classically : IsFairClassically computation
