use Rattle.judging_laws.proofs.Counted.{counts-exact}
use Rattle.judging_laws.proofs.laws.counts_are_greatest.Goals as goal

pub returns : goal.returns
returns g c o counts = counts-exact o counts
