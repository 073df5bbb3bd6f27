use Rattle.goal_laws.proofs.Following.{by_cases}
use Rattle.goal_laws.proofs.laws.responses_by_cases.Goals as goal

pub returns : goal.returns
returns g c p q r e o first second = by_cases o p q r e first second
