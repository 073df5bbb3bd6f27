use Rattle.equation_laws.proofs.Founds.{are-found}
use Rattle.equation_laws.proofs.laws.what_is_found_spans.Goals as goal

pub returns : goal.returns
returns c = are-found
