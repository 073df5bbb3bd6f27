-- The names of a typed program stand for its variables and its locations.
use Rattle.std.specs.Prelude.{◌≡◌, Ok}
use Rattle.spl_parser.specs.ProgramTree.{Program}
use Rattle.expression_typer.specs.Naming.{NamesOver, names_of}
use Rattle.spl_typer.specs.Programs.{Typed, typing}

abbrev pub NamesStand : Type 0
NamesStand = (p : Program) (t : Typed) → typing p ≡ Ok t → NamesOver t.variables t.locations (names_of t.names)
