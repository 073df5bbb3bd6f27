-- A schedule, played: what states its moves lead to, and why it can't be played.
use Rattle.std.specs.Prelude.{◌≡◌, ℕ, suc, Bool, true, false, List, [], ◌∷◌, ◌++◌, map, if◌then◌else◌, ⊤, Result, Ok, Err, Option, Some, None}
use Rattle.std.specs.List.{list_any}
use Rattle.std.specs.declared.vec.Vec.{Vec}
use Rattle.std.specs.declared.alloc.Global.{Global}
use Rattle.st_form.specs.Formula.{Formula}
use Rattle.st_form.specs.declared.conditions.TransName.{TransName}
use Rattle.st_form.specs.declared.conditions.TransName.TheVariants.{Idle, Step}
use Rattle.st_program.specs.Tree.{Processes}
use Rattle.st_program.specs.Residuals.{Rests}
use Rattle.st_program.specs.declared.residuals.State as GState
use Rattle.spl_semantics.specs.Stores.{Store, holds}
use Rattle.spl_semantics.specs.Steps.{steps_of}
use Rattle.spl_semantics.specs.Going.{Act}
use Rattle.spl_semantics.specs.Limits.{wide_rests}
use Rattle.spl_semantics.specs.Names.{same_name}
use Rattle.spl_semantics.specs.InOrder.{InOrder}
use Rattle.spl_semantics.specs.Plain.{plain_state}
use Rattle.spl_semantics.specs.Runs.{State, start}
use Rattle.spl_semantics.specs.Observed.{is_enabled}
use Rattle.spl_semantics.specs.declared.acts.Move.{Move}
use Rattle.trace_player.specs.declared.runs.Played.{Played}
use Rattle.trace_player.specs.declared.faults.PlayFault.{PlayFault}
use Rattle.trace_player.specs.declared.faults.PlayFault.TheVariants as faults

-- the state behind the first step with the name
abbrev pub step_named : List (Act Rests) → TransName → Option State
step_named [] name = None
step_named (a ∷ acts) name = if same_name a.name name then Some (record { left = a.left; store = a.store }) else step_named acts name

-- the state to which a move leads; none where it isn't enabled
abbrev pub behind_in : List (Act Rests) → State → TransName → Option State
behind_in acts s Idle = Some s
behind_in acts s (Step o part) = step_named acts (Step o part)

abbrev pub behind_move : Processes → State → TransName → Option State
behind_move p s name = behind_in (steps_of s.left p s.store) s name

-- how a schedule ends: all moves are made, with the state behind each; a number is too large at a position; or a move isn't
-- enabled
pub data Outcome : Type 0 where
  made : List (TransName × State) → Outcome
  too_large : ℕ → Outcome
  illegal : ℕ → Outcome

abbrev pub onto : TransName → State → Outcome → Outcome
onto name s (made later) = made ((name, s) ∷ later)
onto name s (too_large k) = too_large k
onto name s (illegal k) = illegal k

-- the move, where it is enabled, and then the others
abbrev pub go_on : Option State → (State → Outcome) → TransName → ℕ → Outcome
go_on None others name k = illegal k
go_on (Some t) others name k = onto name t (others t)

-- the moves from the state at position k on. What is too large there comes before what isn't enabled
abbrev pub outcome : Processes → List TransName → State → ℕ → Outcome
outcome p [] s k = if wide_rests s.left p s.store then too_large k else made []
outcome p (name ∷ names) s k =
    if wide_rests s.left p s.store
    then too_large k
    else go_on (behind_move p s name) (λ t. outcome p names t (suc k)) name k

-- the states of a run
abbrev pub states_of : State → List (TransName × State) → List State
states_of s later = s ∷ map (λ step. step.1) later

abbrev pub is_among : TransName → List TransName → Bool
is_among name names = list_any (λ n. same_name n name) names

-- each list has exactly the names that are enabled in its state
abbrev pub AreEnabled : Processes → List State → List (Vec TransName Global) → Type 0
AreEnabled p [] [] = ⊤
AreEnabled p [] (row ∷ rows) = ⊥
AreEnabled p (s ∷ ss) [] = ⊥
AreEnabled p (s ∷ ss) (row ∷ rows) = ((name : TransName) → is_among name row.items ≡ is_enabled p s name) × AreEnabled p ss rows

-- what was played is this run: its states, the names of its steps, and the enabled names of each state
pub record IsPlayed (p : Processes) (s : State) (later : List (TransName × State)) (played : Played) : Type 0 where
  pub states : map plain_state played.states.items ≡ states_of s later
  pub names : played.names.items ≡ map (λ step. step.0) later
  pub enabled : AreEnabled p (states_of s later) played.enabled.items

-- each answer says how the moves from a state end; want of memory is always allowed
abbrev pub Plays : Processes → State → List TransName → Result Played PlayFault → Type 0
Plays p s names (Ok played) = (later : List (TransName × State)) × (outcome p names s 0 ≡ made later) × IsPlayed p s later played
Plays p s names (Err faults.NoStart) = ⊥
Plays p s names (Err (faults.ValueLimit k)) = outcome p names s 0 ≡ too_large k
Plays p s names (Err (faults.Illegal k)) = outcome p names s 0 ≡ illegal k
Plays p s names (Err faults.Memory) = ⊤

-- a run begins only with a store in which the initial condition holds
abbrev pub PlayAnswers : Processes → Formula → Store → List TransName → Result Played PlayFault → Type 0
PlayAnswers p initial store names (Ok played) = (holds initial store ≡ true) × Plays p (start p store) names (Ok played)
PlayAnswers p initial store names (Err faults.NoStart) = holds initial store ≡ false
PlayAnswers p initial store names (Err (faults.ValueLimit k)) = (holds initial store ≡ true) × Plays p (start p store) names (Err (faults.ValueLimit k))
PlayAnswers p initial store names (Err (faults.Illegal k)) = (holds initial store ≡ true) × Plays p (start p store) names (Err (faults.Illegal k))
PlayAnswers p initial store names (Err faults.Memory) = ⊤

-- all steps of the state at a position, unless a number is too large there
abbrev pub Surveyed : Processes → State → ℕ → Result (Vec Move Global) PlayFault → Type 0
Surveyed p s k (Ok steps) = (wide_rests s.left p s.store ≡ false) × InOrder (steps_of s.left p s.store) steps.items
Surveyed p s k (Err faults.NoStart) = ⊥
Surveyed p s k (Err (faults.ValueLimit j)) = (j ≡ k) × (wide_rests s.left p s.store ≡ true)
Surveyed p s k (Err (faults.Illegal j)) = ⊥
Surveyed p s k (Err faults.Memory) = ⊤

-- a state was noted behind others, with the names of idling and of its steps
pub record Noted (before : List GState.State) (rows_before : List (Vec TransName Global)) (s : GState.State) (steps : List Move) (after : List GState.State) (rows_after : List (Vec TransName Global)) : Type 0 where
  pub row : Vec TransName Global
  pub names : row.items ≡ Idle ∷ map (λ m. m.name) steps
  pub rows : rows_after ≡ rows_before ++ row ∷ []
  pub states : after ≡ before ++ s ∷ []
