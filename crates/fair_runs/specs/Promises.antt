-- What is promised of a goal, of finite runs and of infinite ones.
--
-- Infinite runs are the computations of Manna and Pnueli: sequences of states, the first one of the program's, each next one reached by
-- some transition. Fairness and the goals on them are the books' sentences (*Temporal Verification of Reactive Systems: Safety*, sections
-- 0.1, 0.4, 1.1 and 3.3; *Progress*, chapter 1), in two readings of "sometime": as it stands, and as "it is not so that never", which is
-- what classical logic makes of it.
use Rattle.std.specs.Prelude.{ℕ, suc, ◌≤◌, ◌⊎◌, ⊤, IsTrue, List, map}
use Rattle.st_form.specs.Formula.{Formula, Situation, truth}
use Rattle.st_form.specs.declared.conditions.TransName.{TransName}
use Rattle.observations.specs.declared.Fairness.TheVariants.{Just, Compassionate}
use Rattle.observations.specs.Observation.{Observation, last}
use Rattle.observations.specs.Goals.{HoldsAt}
use Rattle.fair_computations.specs.Goals.{EndlessLevels}
use Rattle.st_program.specs.Tree.{Processes}
use Rattle.st_program.specs.Member.{Member}
use Rattle.spl_semantics.specs.Names.{all_names}
use Rattle.spl_semantics.specs.Runs.{State, IsFirst, Leads, IsEnabled, Follows, IsSeenOf, image}
use Rattle.temporal_goals.specs.Texts.{PlainGoal, invariant, waiting, response}
use Rattle.temporal_goals.specs.Meaning.{test_of}
use Rattle.obligation_laws.specs.Obligations.{HoldsOnRuns}
use Rattle.fair_runs.specs.Sequences.{IsSequenceOf}
use Rattle.fair_runs.specs.Meeting.{ComesTo}

-- at a position or behind it
abbrev pub Sometime : (ℕ → Type 0) → ℕ → Type 0
Sometime P k = (m : ℕ) × (k ≤ m) × P m

-- and not never
abbrev pub NotNever : (ℕ → Type 0) → ℕ → Type 0
NotNever P k = ¬ ((m : ℕ) → k ≤ m → ¬ (P m))

-- compassion for what is taken at some positions and enabled at some: it is taken again and again, or never enabled from some position on
abbrev pub Compassion : (ℕ → Type 0) → (ℕ → Type 0) → Type 0
Compassion Taken Enabled = ((k : ℕ) → Sometime Taken k) ⊎ ((k : ℕ) × ((m : ℕ) → k ≤ m → ¬ (Enabled m)))

-- the same in the other reading: if it is enabled again and again, it is taken again and again
abbrev pub ClassicalCompassion : (ℕ → Type 0) → (ℕ → Type 0) → Type 0
ClassicalCompassion Taken Enabled = ((k : ℕ) → NotNever Enabled k) → (k : ℕ) → NotNever Taken k

-- each transition gets what is owed to it: a just one, as each compassionate one is, is again and again taken or disabled
pub record IsFairIn (Comes : (ℕ → Type 0) → ℕ → Type 0) (IsPaid : (ℕ → Type 0) → (ℕ → Type 0) → Type 0) (p : Processes) (state : ℕ → State) : Type 0 where
  pub just : (name : TransName) → Member (name, Just) (all_names p) ⊎ Member (name, Compassionate) (all_names p) → (k : ℕ) → Comes (λ m. Leads p (state m) name (state (suc m)) ⊎ ¬ (IsEnabled p (state m) name)) k
  pub compassionate : (name : TransName) → Member (name, Compassionate) (all_names p) → IsPaid (λ m. Leads p (state m) name (state (suc m))) (λ m. IsEnabled p (state m) name)

-- the goal holds along these states; of a response's bound nothing is said
abbrev pub HoldsIn : ((ℕ → Type 0) → ℕ → Type 0) → PlainGoal → (ℕ → Situation) → Type 0
HoldsIn Comes (invariant p) state = (i : ℕ) → IsTrue (truth (state i) p)
HoldsIn Comes (waiting p forms) state = (i : ℕ) → IsTrue (truth (state i) p) → EndlessLevels state (map test_of forms) i
HoldsIn Comes (response p q bound) state = (i : ℕ) → IsTrue (truth (state i) p) → Comes (λ m. IsTrue (truth (state m) q)) i

-- each run on which the response is owed at some position can go on so that its target comes there or behind it; of the other goals
-- nothing is asked, as they promise that nothing comes
abbrev pub CanBeMet : Processes → Formula → PlainGoal → Type 0
CanBeMet p initial (response f g bound) =
    (s : State) (later : List (TransName × State)) (o : Observation Situation) → IsFirst p initial s → Follows p s later → IsSeenOf p s later o → (i : ℕ) → i ≤ last o → HoldsAt (test_of f) o i → ComesTo p s later (test_of g) i
CanBeMet p initial _ = ⊤

-- the goal holds on every run, and along every fair sequence of states in both readings; and where it is a response, it can be met
pub record Promise (p : Processes) (initial : Formula) (goal : PlainGoal) : Type 0 where
  pub on_runs : HoldsOnRuns p initial goal
  pub along : (state : ℕ → State) → IsSequenceOf p initial state → IsFairIn Sometime Compassion p state → HoldsIn Sometime goal (λ k. image p (state k))
  pub eventually : (state : ℕ → State) → IsSequenceOf p initial state → IsFairIn NotNever ClassicalCompassion p state → HoldsIn NotNever goal (λ k. image p (state k))
  pub met : CanBeMet p initial goal
