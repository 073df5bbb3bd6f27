use Rattle.std.proofs.Common.{◌≡◌}
use Rattle.spl_typer.specs.GroupViews.{measure_view}
use Rattle.spl_typer.specs.Measured as told
use Rattle.spl_typer.proofs.composing.put_all.Given as goal

abbrev pub invariant-loop-var : goal.invariant-loop-var
invariant-loop-var l = told.put_sides l.var-iterator.rest.items (measure_view l.measure) ≡ told.put_sides l.fn.new.items (measure_view l.fn.measure)
