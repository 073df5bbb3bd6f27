use Rattle.farkas_check.specs.PlainProblem.{setting}
use Rattle.discharge.proofs.Halves.{if-ok, first-of-all}
use Rattle.discharge.proofs.checking.check_all.Goals as goal

pub returns-clause-first_failing : goal.returns-clause-first_failing
returns-clause-first_failing g c =
    if-ok c.check_range.result _ _ (first-of-all (setting c.args.components.now c.args.variables.now) c.args.conditions.now c.args.blocks.now c.requires.checkable) c.check_range.ensures.first_failing
