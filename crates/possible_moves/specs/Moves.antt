-- Where a schedule leads, and which moves may be taken there.
use Rattle.std.specs.Prelude.{◌≡◌, ◌↔◌, ℕ, true, List, [], ◌∷◌, map}
use Rattle.st_form.specs.Formula.{Formula}
use Rattle.st_form.specs.declared.conditions.Part.{Part}
use Rattle.st_form.specs.declared.conditions.TransName.{TransName}
use Rattle.st_form.specs.declared.conditions.TransName.TheVariants.{Step}
use Rattle.st_program.specs.Member.{Member}
use Rattle.st_program.specs.Tree.{Processes}
use Rattle.st_program.specs.declared.residuals.State as GState
use Rattle.spl_semantics.specs.declared.acts.Move.{Move}
use Rattle.spl_semantics.specs.Plain.{plain_state}
use Rattle.spl_semantics.specs.Runs.{State, Leads, start}
use Rattle.spl_semantics.specs.Stores.{Store, holds}
use Rattle.trace_player.specs.Playing.{outcome, made, states_of}
use Rattle.trace_player.specs.declared.runs.Played.{Played}
use Rattle.possible_moves.specs.declared.reaching.Reached.{Reached}

-- a way on: a name, and the state behind it
abbrev pub way_of : Move → TransName × State
way_of m = (m.name, plain_state m.state)

-- the moves that may be taken: each transition that leads on from the state, with each state to which it leads, and no other
abbrev pub AreMoves : Processes → State → List (TransName × State) → Type 0
AreMoves p s moves = (occ : ℕ) (part : Part) (t : State) → Leads p s (Step occ part) t ↔ Member (Step occ part, t) moves

-- the state behind the last move of a run; its first state where there is none
abbrev pub last_of : State → List (TransName × State) → State
last_of s [] = s
last_of s (step ∷ later) = last_of step.1 later

-- a run begins with the store and makes all these moves; the state is its last one, with the moves that may be taken there
pub record IsReachedBy (p : Processes) (initial : Formula) (store : Store) (names : List TransName) (r : Reached) : Type 0 where
  pub begins : holds initial store ≡ true
  pub later : List (TransName × State)
  pub plays : outcome p names (start p store) 0 ≡ made later
  pub state : plain_state r.state ≡ last_of (start p store) later
  pub moves : AreMoves p (plain_state r.state) (map way_of r.moves.items)

-- a run begins with the store and makes all these moves, and what was played are its states
pub record IsRunOf (p : Processes) (initial : Formula) (store : Store) (names : List TransName) (played : Played) : Type 0 where
  pub begins : holds initial store ≡ true
  pub later : List (TransName × State)
  pub plays : outcome p names (start p store) 0 ≡ made later
  pub states : map plain_state played.states.items ≡ states_of (start p store) later

-- the state, with the moves that may be taken from it
pub record IsAt (p : Processes) (s : GState.State) (r : Reached) : Type 0 where
  pub state : r.state ≡ s
  pub moves : AreMoves p (plain_state r.state) (map way_of r.moves.items)
