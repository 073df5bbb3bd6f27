use Rattle.fair_computations.proofs.Endless.{many, endless}
use Rattle.fair_computations.proofs.laws.rounds_follow.Goals as goal

pub returns : goal.returns
returns g c = record { many = λ run K rounds n k high. many run K rounds n k high; endless = λ run K rounds k high. endless run K rounds k high }
