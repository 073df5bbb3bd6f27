use Rattle.std.proofs.Common.{◌≡◌, drop}
use Rattle.spl_parser.specs.ProgramTree.{declaration_views}
use Rattle.spl_typer.specs.Programs.{heading, declarations_in}
use Rattle.spl_typer.proofs.program.declarations.Given as goal

abbrev pub invariant-loop-raw : goal.invariant-loop-raw
invariant-loop-raw l =
    declarations_in (declaration_views (drop l.raw-index l.raws)) (heading l.head) ≡ declarations_in (declaration_views l.raws) (heading l.fn.head)
