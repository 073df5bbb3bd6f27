-- What a state must be so that it is one of the program.
use Rattle.std.specs.Prelude.{◌≡◌, Some, ⊤}
use Rattle.st_program.specs.Residuals.{Rest, Done, Run, Then, Again, Inside, Rests, no_rest, rests}
use Rattle.st_program.specs.Spots.{Body, Spot, spot, body}
use Rattle.st_program.specs.Tree.{Action, skip, while_do, cooperate, Processes, no_process, beside, action}
use Rattle.spl_semantics.specs.Control.{children_of}

abbrev pub IsLoop : Action → Type 0
IsLoop (while_do t s) = ⊤
IsLoop skip = ⊥
IsLoop _ = ⊥

abbrev pub IsCooperation : Action → Type 0
IsCooperation (cooperate ps) = ⊤
IsCooperation skip = ⊥
IsCooperation _ = ⊥

-- what is left fits the program: its numbers name statements and bodies of the right kind, and inside a cooperation there is
-- one part for each child
abbrev mutual
  pub FitsRest : Rest → Processes → Type 0
  FitsRest Done p = ⊤
  FitsRest (Run n) p = (x : Spot) × (spot p n ≡ Some x)
  FitsRest (Then r b k) p = ((x : Body) × (body p b ≡ Some x)) × FitsRest r p
  FitsRest (Again r w) p = ((x : Spot) × (spot p w ≡ Some x) × IsLoop (action x.stmt)) × FitsRest r p
  FitsRest (Inside n rs) p = (x : Spot) × (spot p n ≡ Some x) × IsCooperation (action x.stmt) × FitsEach rs p (children_of (action x.stmt))

  -- one part for each of these components
  pub FitsEach : Rests → Processes → Processes → Type 0
  FitsEach no_rest p no_process = ⊤
  FitsEach no_rest p (beside q qs) = ⊥
  FitsEach (rests r rs) p no_process = ⊥
  FitsEach (rests r rs) p (beside q qs) = FitsRest r p × FitsEach rs p qs

-- what is left of the processes of a program
abbrev pub FitsProgram : Processes → Rests → Type 0
FitsProgram p rs = FitsEach rs p p
