use Rattle.goal_laws.proofs.Following.{waiting}
use Rattle.goal_laws.proofs.laws.waitings_follow.Goals as goal

pub returns : goal.returns
returns g c p q forms others o premise each waits = waiting o p q forms others premise each waits
