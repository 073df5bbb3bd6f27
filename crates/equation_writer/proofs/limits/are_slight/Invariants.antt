use Rattle.std.proofs.Common.{◌≡◌, drop}
use Rattle.equation_forms.specs.Formulas.{are_slight}
use Rattle.equation_writer.proofs.limits.are_slight.Given as goal

abbrev pub invariant-loop-e : goal.invariant-loop-e
invariant-loop-e l = are_slight (drop l.e-index l.entries) ≡ are_slight l.entries
