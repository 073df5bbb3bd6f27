use Rattle.goal_laws.proofs.Waiting.{goes_along}
use Rattle.goal_laws.proofs.laws.waiting_goes_along.Goals as goal

pub returns : goal.returns
returns g c p q r a b e o responds waits = goes_along o p q r a b e responds waits
