-- What it is that the steps of a program are the moves of its statements.
use Rattle.std.specs.Prelude.{◌≡◌, ℕ, ◌⊎◌, true, List}
use Rattle.st_form.specs.Formula.{Formula}
use Rattle.st_form.specs.declared.conditions.TransName.{TransName}
use Rattle.st_program.specs.Tree.{Processes}
use Rattle.st_program.specs.Member.{Member}
use Rattle.st_program.specs.Spots.{all_spots}
use Rattle.st_program.specs.Residuals.{Rests}
use Rattle.spl_semantics.specs.Stores.{Store}
use Rattle.spl_semantics.specs.Steps.{steps_of}
use Rattle.spl_semantics.specs.Going.{Act}
use Rattle.spl_semantics.proofs.TextMoves.{Move, all_moves}
use Rattle.spl_semantics.specs.Runs.{State, Reached, control}
use Rattle.spl_semantics.proofs.ByCases.{behind_act}

-- a move leads from one set of locations with a store to another: it leaves its own, enters others, and keeps the rest
pub record Moves (m : Move) (at : List ℕ) (store : Store) (at' : List ℕ) (store' : Store) : Type 0 where
  pub in_place : (l : ℕ) → Member l m.from → Member l at
  pub allowed : m.allowed store ≡ true
  pub store_is : store' ≡ m.result store
  pub stays : (l : ℕ) → Member l at' → (Member l at × (Member l m.from → ⊥)) ⊎ Member l m.to
  pub kept : (l : ℕ) → Member l at → (Member l m.from → ⊥) → Member l at'
  pub enters : (l : ℕ) → Member l m.to → Member l at'

-- a move of the program with this name and mode
pub record NamedMove (p : Processes) (name : TransName) (mode : ℕ) : Type 0 where
  pub move : Move
  pub is_in : Member move (all_moves (all_spots p))
  pub name_is : move.name ≡ name
  pub mode_is : move.mode ≡ mode

-- each step from the state is a move with its name and mode
abbrev pub StepsAreMoves : Processes → State → Type 0
StepsAreMoves p s =
    (a : Act Rests) → Member a (steps_of s.left p s.store)
    → (m : NamedMove p a.name a.mode) × Moves m.move (control p s) s.store (control p (behind_act a)) a.store

-- the step that a move is
pub record StepOf (p : Processes) (s : State) (m : Move) (at' : List ℕ) (store' : Store) : Type 0 where
  pub step : Act Rests
  pub is_in : Member step (steps_of s.left p s.store)
  pub name_is : step.name ≡ m.name
  pub mode_is : step.mode ≡ m.mode
  pub store_is : step.store ≡ store'
  pub to : (l : ℕ) → Member l (control p (behind_act step)) → Member l at'
  pub from : (l : ℕ) → Member l at' → Member l (control p (behind_act step))

-- each move that is allowed in the state is a step
abbrev pub MovesAreSteps : Processes → State → Type 0
MovesAreSteps p s =
    (m : Move) → Member m (all_moves (all_spots p)) → (at' : List ℕ) (store' : Store)
    → Moves m (control p s) s.store at' store' → StepOf p s m at' store'

-- in every state of every run
pub record ControlMoves (p : Processes) (initial : Formula) : Type 0 where
  pub steps : (s : State) → Reached p initial s → StepsAreMoves p s
  pub moves : (s : State) → Reached p initial s → MovesAreSteps p s
