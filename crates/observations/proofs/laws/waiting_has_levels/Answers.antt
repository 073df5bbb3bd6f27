use Rattle.observations.proofs.LevelsWait.{waits}
use Rattle.observations.proofs.WaitingLevels.{levels}
use Rattle.observations.proofs.laws.waiting_has_levels.Goals as goal

pub returns : goal.returns
returns g c p forms o = (
  λ by i within holds. levels o forms i within (by i within holds),
  λ goal i within holds. waits o forms i within (goal i within holds),
)
