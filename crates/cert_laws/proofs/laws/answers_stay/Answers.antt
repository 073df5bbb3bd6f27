use Rattle.cert_laws.proofs.Closing.{answers-stay}
use Rattle.cert_laws.proofs.laws.answers_stay.Goals as goal

pub returns : goal.returns
returns c = answers-stay
