use Rattle.std.proofs.Common.{◌≡◌, drop}
use Rattle.spl_parser.specs.ProgramTree.{process_views}
use Rattle.spl_typer.specs.Programs.{heading, processes_in}
use Rattle.spl_typer.proofs.program.processes.Given as goal

abbrev pub invariant-loop-raw : goal.invariant-loop-raw
invariant-loop-raw l =
    processes_in (process_views (drop l.raw-index l.raws)) (heading l.head) ≡ processes_in (process_views l.raws) (heading l.fn.head)
