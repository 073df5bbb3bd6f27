use Rattle.goal_laws.proofs.Following.{response}
use Rattle.goal_laws.proofs.laws.responses_follow.Goals as goal

pub returns : goal.returns
returns g c p q x y d e o premise target bound responds = response o p q x y d e premise target bound responds
