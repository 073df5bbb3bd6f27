-- What is so of a program that some text spells.
use Rattle.std.proofs.Common.{◌≡◌, ◌≤◌, sym, length}
use Rattle.spl_typer.specs.Programs.{Typed}
use Rattle.step_run.specs.Source.{IsSpelled}
use Rattle.spl_typer.proofs.Tabled.{as_many}
use Rattle.step_run.proofs.Typed.{from_text, well_typed}

pub all_named : (p : Typed) → IsSpelled p → length p.variables ≡ length p.names.variables
all_named p spelled = let f = from_text spelled.0 p spelled.1 in sym (as_many f.program p f.types)

pub few_variables : (p : Typed) → IsSpelled p → length p.variables ≤ 64
few_variables p spelled = (well_typed p spelled).few_variables
