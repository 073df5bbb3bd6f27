use Rattle.played_goals.proofs.Failing.{from_each}
use Rattle.played_goals.proofs.laws.proved_goals_never_fail.Goals as goal

pub returns : goal.returns
returns c = record {
  fails = λ p initial aim holds o run failure. failure.1.2 (from_each aim o (holds o run) failure.0 failure.1.1);
  holds = λ p initial aim holds o run clear. (clear, holds o run);
}
