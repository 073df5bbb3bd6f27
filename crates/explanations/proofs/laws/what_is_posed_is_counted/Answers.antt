use Rattle.explanations.proofs.Outlines.{posed-counted}
use Rattle.explanations.proofs.laws.what_is_posed_is_counted.Goals as goal

pub returns : goal.returns
returns c = posed-counted
