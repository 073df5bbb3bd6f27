use Rattle.st_form.proofs.SimpleTruths.{truth-simple}
use Rattle.st_form.proofs.laws.simplification_keeps_truth.Goals as goal

pub returns : goal.returns
returns c = truth-simple
