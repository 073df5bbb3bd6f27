use Rattle.generated_conditions.proofs.Whole as proved
use Rattle.generated_conditions.proofs.laws.conditions_are_generated.Goals as goal

pub returns : goal.returns
returns c = proved.conditions_are_generated
