-- The steps of a state as a list in order: by occurrence, then by part, and steps of one name in the order of the
-- definition.
use Rattle.std.specs.Prelude.{◌≡◌, ℕ, ◌+◌, ◌*◌, Bool, false, List, Result, Ok, Err}
use Rattle.std.specs.List.{filter}
use Rattle.std.specs.List.Sorted.{IsPermutation, IsNonDecreasingBy}
use Rattle.std.specs.declared.vec.Vec.{Vec}
use Rattle.std.specs.declared.alloc.Global.{Global}
use Rattle.st_form.specs.declared.conditions.Part.{Part}
use Rattle.st_form.specs.declared.conditions.Part.TheVariants.{Whole, Entry, Exit}
use Rattle.st_form.specs.declared.conditions.TransName.{TransName}
use Rattle.st_form.specs.declared.conditions.TransName.TheVariants.{Idle, Step}
use Rattle.st_program.specs.Residuals.{Rests}
use Rattle.spl_semantics.specs.declared.acts.Move.{Move}
use Rattle.spl_semantics.specs.declared.faults.MoveFault.{MoveFault}
use Rattle.spl_semantics.specs.Answers.{Fails}
use Rattle.spl_semantics.specs.Names.{same_name}
use Rattle.spl_semantics.specs.Plain.{plain_moves}
use Rattle.spl_semantics.specs.Going.{Act}

-- the place of a name: names of an earlier occurrence come first, and an entry comes before its exit
abbrev pub part_place : Part → ℕ
part_place Whole = 1
part_place Entry = 2
part_place Exit = 3

abbrev pub name_place : TransName → ℕ
name_place Idle = 0
name_place (Step o part) = o * 4 + part_place part

-- the moves are these steps, each as often as it is there; names rise, and the steps of a name stay in their order
pub record InOrder (steps : List (Act Rests)) (moves : List Move) : Type 0 where
  pub all : IsPermutation steps (plain_moves moves)
  pub rising : IsNonDecreasingBy (λ m. name_place m.name) moves
  pub kept : (name : TransName) → filter (λ a. same_name a.name name) (plain_moves moves) ≡ filter (λ a. same_name a.name name) steps

-- an answer, where it is known whether a number on the way is too large
abbrev pub AnswersInOrder : Result (Vec Move Global) MoveFault → Bool → List (Act Rests) → Type 0
AnswersInOrder (Ok moves) wide steps = (wide ≡ false) × InOrder steps moves.items
AnswersInOrder (Err fault) wide steps = Fails fault wide
