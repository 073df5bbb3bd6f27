use Rattle.expression_typer.specs.Scope.{scope_view}
use Rattle.st_program.specs.Plain.{plain_targets}
use Rattle.spl_typer.proofs.Changes.{changes-end_known, changes-end_values}
use Rattle.spl_typer.proofs.parts.changes.Goals as goal
use Rattle.spl_typer.proofs.parts.changes.Goals.{then-loop-i-test+else-i-values, else-loop-i-test}

pub returns : goal.returns
returns c =
    elim c.loop-i-test.branch [
      | then-loop-i-test+else-i-values w ↦ changes-end_values (scope_view c.args.scope.now) (plain_targets c.loop-i.out.items) c.args.known.now c.args.values.now c.loop-i.i _ w.if-i-values.false c.loop-i.invariant
      | else-loop-i-test w ↦ changes-end_known (scope_view c.args.scope.now) (plain_targets c.loop-i.out.items) c.args.known.now c.args.values.now c.loop-i.i _ w.loop-i-test.false c.loop-i.invariant
    ]
