use Rattle.goal_laws.proofs.Following.{both}
use Rattle.goal_laws.proofs.laws.invariances_follow.Goals as goal

pub returns : goal.returns
returns g c = record { weaker = λ p q o implies holds i within. implies i within (holds i within); both = λ p q o first second. both o p q first second }
