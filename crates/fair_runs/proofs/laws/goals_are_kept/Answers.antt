use Rattle.fair_runs.proofs.Keeping.{kept}
use Rattle.fair_runs.proofs.laws.goals_are_kept.Goals as goal

pub returns : goal.returns
returns c p initial aim well holds = kept p initial well aim holds
