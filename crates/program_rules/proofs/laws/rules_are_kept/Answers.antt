use Rattle.program_rules.proofs.Whole as proved
use Rattle.program_rules.proofs.laws.rules_are_kept.Goals as goal

pub returns : goal.returns
returns c = proved.rules_are_kept
