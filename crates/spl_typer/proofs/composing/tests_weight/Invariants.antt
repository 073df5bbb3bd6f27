use Rattle.std.proofs.Common.{◌≡◌, drop}
use Rattle.spl_typer.specs.Measured as told
use Rattle.spl_typer.proofs.composing.tests_weight.Given as goal

abbrev pub invariant-loop-test : goal.invariant-loop-test
invariant-loop-test l = told.tests_weight l.weight (drop l.test-index l.tests) ≡ told.tests_weight l.fn.weight l.tests
