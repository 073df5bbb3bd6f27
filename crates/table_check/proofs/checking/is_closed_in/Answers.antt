use Rattle.farkas_check.specs.PlainProblem.{setting}
use Rattle.table_check.proofs.Knowing.{knows-grown}
use Rattle.table_check.proofs.checking.is_closed_in.Goals as goal

pub returns-clause-knows : goal.returns-clause-knows
returns-clause-knows c = knows-grown (setting c.args.components.now c.args.variables.now) c.args.book.now c.is_closed.new.table c.is_closed.ensures.grows c.requires.knows
