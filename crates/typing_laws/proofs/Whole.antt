-- What typing gives is a program.
use Rattle.std.proofs.Common.{◌≡◌, subst}
use Rattle.std.specs.Prelude.{Ok}
use Rattle.st_program.specs.Programs.{IsProgram}
use Rattle.spl_parser.specs.ProgramTree.{Program}
use Rattle.expression_typer.proofs.Holding.{Holds, bound, anyway}
use Rattle.spl_typer.specs.Programs.{heading_of, names_of, Typed, typing}
use Rattle.spl_typer.proofs.Whole.{Complete, heading_sound, is_program}
use Rattle.typing_laws.specs.Laws.{TypedIsWell}

abbrev IsWell : Typed → Type 0
IsWell p = IsProgram p.variables p.initial p.processes p.locations p.statements

typing_well : (text : Program) → Holds IsWell (typing text)
typing_well text =
    bound Complete IsWell (heading_of text) _ (heading_sound text) (λ h k. anyway IsWell (names_of h.state.names) _ (λ names. is_program h k))

pub typed_is_well : TypedIsWell
typed_is_well text p is = subst (Holds IsWell) is (typing_well text)
