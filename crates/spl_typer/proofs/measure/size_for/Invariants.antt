use Rattle.std.proofs.Common.{◌≡◌, drop}
use Rattle.spl_typer.specs.Measured.{size_for}
use Rattle.spl_typer.proofs.measure.size_for.Given as goal

abbrev pub invariant-loop-pair : goal.invariant-loop-pair
invariant-loop-pair l = size_for l.var (drop l.pair-index l.truths) ≡ size_for l.var l.truths
