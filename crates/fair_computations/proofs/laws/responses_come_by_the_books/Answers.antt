use Rattle.fair_computations.proofs.Fairly.{settled, response}
use Rattle.fair_computations.proofs.Settling.{searches_settle}
use Rattle.fair_computations.proofs.laws.responses_come_by_the_books.Goals as goal

pub returns : goal.returns
returns g c p q e run ends responds fair = response run p q e responds (settled run (searches_settle run ends) fair)
