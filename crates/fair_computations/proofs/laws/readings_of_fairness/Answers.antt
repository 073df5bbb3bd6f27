use Rattle.fair_computations.proofs.Fairly.{words, classically, settled}
use Rattle.fair_computations.proofs.Settling.{searches_settle, known}
use Rattle.fair_computations.proofs.laws.readings_of_fairness.Goals as goal

pub returns : goal.returns
returns g c = record {
  words = λ run fair. words run fair;
  classical = λ run fair. classically run fair;
  settled = λ run is fair. settled run is fair;
  searches = λ run ends. searches_settle run ends;
  one = λ run ends fair. known run ends fair;
}
