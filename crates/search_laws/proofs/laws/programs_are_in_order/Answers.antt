use Rattle.search_laws.proofs.Ordering.{program-ordered}
use Rattle.search_laws.proofs.laws.programs_are_in_order.Goals as goal

pub returns : goal.returns
returns c = program-ordered
