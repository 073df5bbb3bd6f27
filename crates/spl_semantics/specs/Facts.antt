-- What is promised of every run: its states meet the control facts, and it goes on to as many rounds as are wanted. The
-- latter is why fairness never stops a program (Manna and Pnueli, *Temporal Verification of Reactive Systems: Safety*,
-- section 0.1).
use Rattle.std.specs.Prelude.{ℕ, ◌≤◌, List, ◌++◌, length}
use Rattle.st_form.specs.declared.conditions.TransName.{TransName}
use Rattle.st_form.specs.Formula.{Situation}
use Rattle.observations.specs.Observation.{Observation}
use Rattle.observations.specs.Rounds.{Rounds}
use Rattle.st_program.specs.Tree.{Processes}
use Rattle.control_states.specs.declared.alternative.Alternative.{Alternative}
use Rattle.control_states.specs.Control.{InControl}
use Rattle.control_facts.specs.Alternatives.{control_of}
use Rattle.spl_semantics.specs.Runs.{State, Follows, image, IsSeenOf}

-- control is at the locations of a control state of the program
abbrev pub MeetsControl : Processes → State → Type 0
MeetsControl p s = (place : ℕ → Alternative) × InControl (control_of p) place (image p s).located

-- the run from s goes on, and the last part of what is seen of the longer run is n consecutive rounds
pub record GoesOn (p : Processes) (s : State) (later : List (TransName × State)) (n : ℕ) : Type 0 where
  pub more : List (TransName × State)
  pub follow : Follows p s (later ++ more)
  pub seen : Observation Situation
  pub seen_of : IsSeenOf p s (later ++ more) seen
  pub begin : ℕ
  pub behind : length later ≤ begin
  pub rounds : Rounds seen n begin (length (later ++ more))
