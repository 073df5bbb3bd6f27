use Rattle.fair_computations.proofs.Levels.{waiting, waiting_seen}
use Rattle.fair_computations.proofs.laws.waitings_hold.Goals as goal

pub returns : goal.returns
returns g c p forms run = (waiting p forms run, waiting_seen p forms run)
