use Rattle.std.proofs.Common.{arith}
use Rattle.observations.specs.Observation.{state_at}
use Rattle.observations.specs.Goals.{at_least_zero}
use Rattle.goal_laws.proofs.Chaining.{rounds_up}
use Rattle.goal_laws.proofs.laws.responses_at_once.Goals as goal

pub returns : goal.returns
returns g c p q e o implies i within holds k l from inside rounds =
    let up = rounds_up o (at_least_zero (e (state_at o i))) k l rounds in
    (i, omega arith, omega arith, implies i within holds)
