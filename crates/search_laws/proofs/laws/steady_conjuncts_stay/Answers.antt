use Rattle.std.proofs.Common.{true}
use Rattle.search_laws.proofs.Steadying.{stays-same}
use Rattle.search_laws.proofs.laws.steady_conjuncts_stay.Goals as goal

pub returns : goal.returns
returns c d f h u = stays-same d true f h u
