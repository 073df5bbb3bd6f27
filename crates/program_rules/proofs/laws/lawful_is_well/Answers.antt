use Rattle.program_rules.proofs.Whole as proved
use Rattle.program_rules.proofs.laws.lawful_is_well.Goals as goal

pub returns : goal.returns
returns c = proved.lawful_is_well
