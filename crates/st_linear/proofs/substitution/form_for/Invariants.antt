use Rattle.std.proofs.Common.{◌≡◌, drop}
use Rattle.st_linear.specs.Linear.{form_for}
use Rattle.st_linear.proofs.substitution.form_for.Given as goal

abbrev pub invariant-loop-pair : goal.invariant-loop-pair
invariant-loop-pair l = form_for l.var (drop l.pair-index l.numbers) ≡ form_for l.var l.numbers
