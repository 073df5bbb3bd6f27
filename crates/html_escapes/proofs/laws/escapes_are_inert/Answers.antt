use Rattle.html_escapes.proofs.Inert as inert
use Rattle.html_escapes.proofs.laws.escapes_are_inert.Goals as goal

pub returns : goal.returns
returns c = inert.escapes_are_inert
