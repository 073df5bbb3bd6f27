use Rattle.goal_laws.proofs.Beginning.{invariance, waiting, response}
use Rattle.goal_laws.proofs.laws.goals_hold_on_beginnings.Goals as goal

pub returns : goal.returns
returns g c = record {
  invariance = λ p o extra i h holds. invariance o extra p i h holds;
  waiting = λ p forms o extra i h waits. waiting o extra p forms i h waits;
  response = λ p q e o extra i h responds. response o extra p q e i h responds;
}
