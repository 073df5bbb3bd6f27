use Rattle.fair_computations.proofs.Fairly.{begin}
use Rattle.fair_computations.proofs.laws.rounds_begin.Goals as goal

pub returns : goal.returns
returns g c run fair = begin run fair
