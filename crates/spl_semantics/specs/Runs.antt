-- States and runs of a program, and what is seen of a run.
--
-- A run is a finite one: a first state, and for each step its name and the state behind it. What is seen of a state is
-- where control is, and the store; with it is seen which names are enabled. A run is a beginning of a computation of Manna
-- and Pnueli, *Temporal Verification of Reactive Systems: Safety*, section 0.1, before fairness is asked.
use Rattle.std.specs.Prelude.{◌≡◌, ◌↔◌, ℕ, suc, Bool, true, List, [], ◌∷◌, map, length, if◌then◌else◌, ⊤}
use Rattle.st_form.specs.Formula.{Formula, Situation}
use Rattle.st_form.specs.Exchange.{is_listed}
use Rattle.st_form.specs.declared.conditions.TransName.{TransName}
use Rattle.st_form.specs.declared.conditions.TransName.TheVariants.{Idle, Step}
use Rattle.observations.specs.declared.Fairness.{Fairness}
use Rattle.observations.specs.Observation.{Moment, Observation}
use Rattle.st_program.specs.Tree.{Processes}
use Rattle.st_program.specs.Spots.{all_spots}
use Rattle.st_program.specs.Residuals.{Rests}
use Rattle.spl_semantics.specs.Stores.{Store, situation, holds}
use Rattle.spl_semantics.specs.Going.{act, begin}
use Rattle.spl_semantics.specs.Cases.{Steps}
use Rattle.spl_semantics.specs.Control.{fronts}
use Rattle.spl_semantics.specs.Names.{all_names, same_name}

pub record State : Type 0 where
  pub left : Rests
  pub store : Store

-- all processes at the beginning of their bodies
abbrev pub start : Processes → Store → State
start p store = record { left = begin p (length (all_spots p)); store = store }

-- a step of the name and mode leads from the one state to the other: idling, whose mode is 1, changes nothing, and any
-- other step is one of the cases
abbrev pub LeadsBy : Processes → State → TransName → ℕ → State → Type 0
LeadsBy p s Idle mode t = (t ≡ s) × (mode ≡ 1)
LeadsBy p s (Step o part) mode t = Steps p s.store s.left (act (Step o part) mode t.left t.store)

-- a step of the name
abbrev pub Leads : Processes → State → TransName → State → Type 0
Leads p s name t = (mode : ℕ) × LeadsBy p s name mode t

-- each step leads to the state behind it
abbrev pub Follows : Processes → State → List (TransName × State) → Type 0
Follows p s [] = ⊤
Follows p s (step ∷ later) = Leads p s step.0 step.1 × Follows p step.1 later

-- a first state of a program: all processes are at their beginning, and the initial condition holds
pub record IsFirst (p : Processes) (initial : Formula) (s : State) : Type 0 where
  pub begins : s.left ≡ begin p (length (all_spots p))
  pub meets : holds initial s.store ≡ true

-- a state of some run
pub data Reached (p : Processes) (initial : Formula) : State → Type 0 where
  first : {s : State} → IsFirst p initial s → Reached p initial s
  next : {s t : State} (name : TransName) → Reached p initial s → Leads p s name t → Reached p initial t

-- the locations where control is
abbrev pub control : Processes → State → List ℕ
control p s = fronts s.left p p

-- what is seen of a state
abbrev pub image : Processes → State → Situation
image p s = situation s.store (λ l. is_listed l (control p s))

-- some step has the name
abbrev pub IsEnabled : Processes → State → TransName → Type 0
IsEnabled p s name = (t : State) × Leads p s name t

-- for each of these names a flag, which is set exactly where the name is enabled
abbrev pub AreFlags : Processes → State → List (TransName × Fairness) → List Bool → Type 0
AreFlags p s [] [] = ⊤
AreFlags p s [] (flag ∷ flags) = ⊥
AreFlags p s (n ∷ ns) [] = ⊥
AreFlags p s (n ∷ ns) (flag ∷ flags) = ((flag ≡ true) ↔ IsEnabled p s n.0) × AreFlags p s ns flags

-- what is seen of a state with which names are enabled in it
pub record IsSeen (p : Processes) (s : State) (m : Moment Situation) : Type 0 where
  pub state_is : m.state ≡ image p s
  pub flags : AreFlags p s (all_names p) m.enabled

-- the place of a name in the list of all names
abbrev pub place_in : List (TransName × Fairness) → TransName → ℕ
place_in [] name = 0
place_in (n ∷ ns) name = if same_name name n.0 then 0 else suc (place_in ns name)

abbrev pub place_of : Processes → TransName → ℕ
place_of p name = place_in (all_names p) name

-- what is seen of each step: the place of its name, and the state behind it
abbrev pub AreSeen : Processes → List (TransName × State) → List (ℕ × Moment Situation) → Type 0
AreSeen p [] [] = ⊤
AreSeen p [] (seen ∷ rest) = ⊥
AreSeen p (step ∷ later) [] = ⊥
AreSeen p (step ∷ later) (seen ∷ rest) = (seen.0 ≡ place_of p step.0) × IsSeen p step.1 seen.1 × AreSeen p later rest

-- the observation is what is seen of this run
pub record IsSeenOf (p : Processes) (s : State) (later : List (TransName × State)) (o : Observation Situation) : Type 0 where
  pub fairness_is : o.fairness ≡ map (λ n. n.1) (all_names p)
  pub first_seen : IsSeen p s o.first
  pub steps_seen : AreSeen p later o.later

-- the observation is that of a run of the program
pub record IsRunOf (p : Processes) (initial : Formula) (o : Observation Situation) : Type 0 where
  pub state : State
  pub later : List (TransName × State)
  pub first : IsFirst p initial state
  pub follow : Follows p state later
  pub seen : IsSeenOf p state later o
