use Rattle.search_laws.proofs.Leading.{ends-there}
use Rattle.search_laws.proofs.laws.searches_end_there.Goals as goal

pub returns : goal.returns
returns c = ends-there
