use Rattle.elimination_laws.proofs.Clashing.{contradiction-closes}
use Rattle.elimination_laws.proofs.laws.contradictions_close.Goals as goal

pub returns : goal.returns
returns c = contradiction-closes
