use Rattle.fair_computations.proofs.Fairly.{begin_at_last, fair_at_last}
use Rattle.fair_computations.proofs.laws.fair_where_rounds_begin.Goals as goal

pub returns : goal.returns
returns g c run = (begin_at_last run, fair_at_last run)
