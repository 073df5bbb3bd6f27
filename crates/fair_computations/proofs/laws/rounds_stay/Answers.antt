use Rattle.fair_computations.proofs.Beginnings.{round_stays, rounds_stay}
use Rattle.fair_computations.proofs.laws.rounds_stay.Goals as goal

pub returns : goal.returns
returns g c = record { one = λ run k l m n h round. round_stays run k l m n h round; many = λ run r k l m n h rounds. rounds_stay run r k l m n h rounds }
