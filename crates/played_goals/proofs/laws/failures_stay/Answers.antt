use Rattle.played_goals.proofs.Failing.{there, whole}
use Rattle.played_goals.proofs.laws.failures_stay.Goals as goal

pub returns : goal.returns
returns c = record {
  there = λ p well s later more o longer seen_of longer_of aim i failure holds. there p well s later more o longer seen_of longer_of aim i failure holds;
  whole = λ p well s later o seen_of aim failure more longer longer_of holds. whole p well s later more o longer seen_of longer_of aim failure.0 failure.1 holds;
}
