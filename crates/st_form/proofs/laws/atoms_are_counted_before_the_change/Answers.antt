use Rattle.st_form.proofs.BeforeChanges.{counts-behind}
use Rattle.st_form.proofs.laws.atoms_are_counted_before_the_change.Goals as goal

pub returns : goal.returns
returns c = counts-behind
