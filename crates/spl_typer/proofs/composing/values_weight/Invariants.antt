use Rattle.std.proofs.Common.{◌≡◌, drop}
use Rattle.spl_typer.specs.Measured as told
use Rattle.spl_typer.proofs.composing.values_weight.Given as goal

abbrev pub invariant-loop-pair : goal.invariant-loop-pair
invariant-loop-pair l = told.values_weight l.weight (drop l.pair-index l.truths) ≡ told.values_weight l.fn.weight l.truths
