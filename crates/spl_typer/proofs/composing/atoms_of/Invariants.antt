use Rattle.std.proofs.Common.{◌≡◌, drop}
use Rattle.spl_typer.specs.Measured as told
use Rattle.spl_typer.proofs.composing.atoms_of.Given as goal

abbrev pub invariant-loop-test : goal.invariant-loop-test
invariant-loop-test l = told.atoms_on l.atoms (drop l.test-index l.tests) ≡ told.atoms_on 0 l.tests
