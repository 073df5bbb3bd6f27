use Rattle.printed_formulas.proofs.Steps as proved
use Rattle.printed_formulas.proofs.laws.printed_formulas_are_spelled.Goals as goal

pub returns : goal.returns
returns c = proved.printed_formulas_are_spelled
