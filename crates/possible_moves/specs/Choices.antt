-- Which moves a line of input may choose.
use Rattle.std.specs.Prelude.{◌≡◌, ◌⊎◌, ℕ, List, map, codes, ⊤}
use Rattle.std.specs.String.{string_bytes}
use Rattle.st_program.specs.Member.{Member}
use Rattle.proof_reports.specs.declared.moves.MoveReport.{MoveReport}
use Rattle.possible_moves.specs.declared.choosing.Choice.{Choice}
use Rattle.possible_moves.specs.declared.choosing.Choice.TheVariants.{Take, Back, Quit, Nothing, Unknown}

-- the name of a listed move, or idling
abbrev pub IsOffered : List MoveReport → List ℕ → Type 0
IsOffered moves name = Member name (map (λ m. string_bytes m.name) moves) ⊎ (name ≡ codes "-")

-- what is taken is offered
abbrev pub IsChoiceOf : List MoveReport → Choice → Type 0
IsChoiceOf moves (Take name) = IsOffered moves name.now
IsChoiceOf moves Back = ⊤
IsChoiceOf moves Quit = ⊤
IsChoiceOf moves Nothing = ⊤
IsChoiceOf moves Unknown = ⊤
