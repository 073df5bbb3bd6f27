use Rattle.farkas_check.specs.PlainProblem.{setting}
use Rattle.discharge.proofs.Knowing.{knows-grown}
use Rattle.discharge.proofs.validity.is_valid_by_lists.Goals as goal

pub returns-clause-knows : goal.returns-clause-knows
returns-clause-knows c = knows-grown (setting c.args.components.now c.args.variables.now) c.args.book.now c.check.new.table c.check.ensures.grows c.requires.knows
