use Rattle.std.proofs.Common.{ap, map, length}
use Rattle.spl_parser.specs.ProgramTree.{declaration_view, process_view}
use Rattle.expression_typer.specs.Scope.{scope_view}
use Rattle.spl_typer.specs.Programs.{heading}
use Rattle.spl_typer.proofs.Ends.{process_end, process_whole}
use Rattle.spl_typer.proofs.program.process.Goals as goal

pub returns : goal.returns
returns c =
    process_whole (process_view c.args.raw.now) (heading c.args.head.now) _ _ _ _ _ _
    c.in_ok-declare.ensures (ap (map declaration_view) c.deref.ensures.value) c.in_ok-declarations.ensures (ap scope_view c.deref-2.ensures.value) c.in_ok-child.ensures
    (process_end _ _ _ _ _ _ _ _ _ c.in_ok-child.child (ap length c.as_slice-shared.ensures.value) c.truncate.ensures.items c.in_ok-push.ensures.items)
