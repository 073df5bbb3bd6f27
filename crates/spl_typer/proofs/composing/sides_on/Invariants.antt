use Rattle.std.proofs.Common.{◌≡◌, drop, []}
use Rattle.st_program.specs.Plain.{plain_targets}
use Rattle.spl_typer.specs.GroupViews.{measure_view}
use Rattle.spl_typer.specs.Measured as told
use Rattle.spl_typer.proofs.composing.sides_on.Given as goal

abbrev pub invariant-loop-var : goal.invariant-loop-var
invariant-loop-var l =
    told.sides_on l.at (measure_view l.measure) l.out.items (plain_targets (drop l.var-index l.changes)) ≡ told.sides_on l.at (measure_view l.measure) [] (plain_targets l.changes)
