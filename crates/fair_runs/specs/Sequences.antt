-- The computations of a program as the books define them: sequences of states alone, without names of steps.
--
-- A transition is enabled in a state where it leads somewhere, and it is taken at a position where it leads from the state
-- there to the next one; one step may be one of several transitions (Manna and Pnueli, *Temporal Verification of Reactive
-- Systems: Safety*, sections 0.1 and 0.4).
use Rattle.std.specs.Prelude.{ℕ, suc, ◌⊎◌}
use Rattle.st_form.specs.Formula.{Formula}
use Rattle.st_form.specs.declared.conditions.TransName.{TransName}
use Rattle.observations.specs.declared.Fairness.TheVariants.{Just, Compassionate}
use Rattle.st_program.specs.Tree.{Processes}
use Rattle.st_program.specs.Member.{Member}
use Rattle.spl_semantics.specs.Names.{all_names}
use Rattle.spl_semantics.specs.Runs.{State, IsFirst, Leads}
use Rattle.fair_computations.specs.Fair.{GetsJustice, GetsCompassion, GetsCompassionByTheBooks, GetsJusticeClassically, GetsCompassionClassically}

-- the first state is one of the program's, and some transition leads from each state to the next one
pub record IsSequenceOf (p : Processes) (initial : Formula) (state : ℕ → State) : Type 0 where
  pub first : IsFirst p initial (state 0)
  pub next : (k : ℕ) → (name : TransName) × Leads p (state k) name (state (suc k))

-- the name leads from the state at position k somewhere
abbrev pub IsEnabledAlong : Processes → (ℕ → State) → TransName → ℕ → Type 0
IsEnabledAlong p state name k = (t : State) × Leads p (state k) name t

-- the name leads from the state at position k to the next one
abbrev pub IsTakenAlong : Processes → (ℕ → State) → TransName → ℕ → Type 0
IsTakenAlong p state name k = Leads p (state k) name (state (suc k))

abbrev pub IsOwedCompassion : Processes → TransName → Type 0
IsOwedCompassion p name = Member (name, Compassionate) (all_names p)

-- a compassionate name is just as well
abbrev pub IsOwedJustice : Processes → TransName → Type 0
IsOwedJustice p name = Member (name, Just) (all_names p) ⊎ IsOwedCompassion p name

-- fair in the books' words
pub record IsFairSequenceByTheBooks (p : Processes) (state : ℕ → State) : Type 0 where
  pub just : (name : TransName) → IsOwedJustice p name → GetsJustice (IsTakenAlong p state name) (IsEnabledAlong p state name)
  pub compassionate : (name : TransName) → IsOwedCompassion p name → GetsCompassionByTheBooks (IsTakenAlong p state name) (IsEnabledAlong p state name)

-- the same, where the case of each compassionate name is known
pub record IsFairSequence (p : Processes) (state : ℕ → State) : Type 0 where
  pub just : (name : TransName) → IsOwedJustice p name → GetsJustice (IsTakenAlong p state name) (IsEnabledAlong p state name)
  pub compassionate : (name : TransName) → IsOwedCompassion p name → GetsCompassion (IsTakenAlong p state name) (IsEnabledAlong p state name)

-- the same by classical logic
pub record IsFairSequenceClassically (p : Processes) (state : ℕ → State) : Type 0 where
  pub just : (name : TransName) → IsOwedJustice p name → GetsJusticeClassically (IsTakenAlong p state name) (IsEnabledAlong p state name)
  pub compassionate : (name : TransName) → IsOwedCompassion p name → GetsCompassionClassically (IsTakenAlong p state name) (IsEnabledAlong p state name)
