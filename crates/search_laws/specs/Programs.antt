-- The facts of control of a program meet what the laws of the search ask.
use Rattle.std.specs.Prelude.{ℕ, ◌<◌, length}
use Rattle.st_program.specs.Tree.{Processes}
use Rattle.control_facts.specs.Alternatives.{control_of}
use Rattle.search_laws.specs.Forms.{IsInOrder}
use Rattle.search_laws.specs.Ends.{HasOwner}

-- a component stands behind the one around it and has an alternative, and each location is that of a component
abbrev pub ProgramsAreInOrder : Type 0
ProgramsAreInOrder = (ps : Processes) → IsInOrder (control_of ps) × ((l : ℕ) → l < length (control_of ps).owners → HasOwner (control_of ps) l)
