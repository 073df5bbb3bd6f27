use Rattle.std.proofs.Common.{◌≡◌, drop, map}
use Rattle.st_reading.specs.Faults.{name_view}
use Rattle.spl_typer.specs.Programs.{heading, names_in}
use Rattle.spl_typer.proofs.program.declare_all.Given as goal

abbrev pub invariant-loop-name : goal.invariant-loop-name
invariant-loop-name l =
    names_in l.input l.truth (map name_view (drop l.name-index l.names)) (heading l.head) ≡ names_in l.input l.truth (map name_view l.names) (heading l.fn.head)
