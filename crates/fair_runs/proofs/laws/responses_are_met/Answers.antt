use Rattle.fair_runs.proofs.Meeting.{met}
use Rattle.fair_runs.proofs.laws.responses_are_met.Goals as goal

pub returns : goal.returns
returns c p initial aim well holds = met p initial well aim holds
