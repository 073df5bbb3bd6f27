use Rattle.fair_computations.proofs.Endless.{fair, fair_classically}
use Rattle.fair_computations.proofs.laws.endless_rounds_are_fair.Goals as goal

pub returns : goal.returns
returns g c = record { words = λ run rounds. fair run rounds; classical = λ run rounds. fair_classically run rounds }
