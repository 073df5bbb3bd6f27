use Rattle.printed_formulas.proofs.Printing as proved
use Rattle.printed_formulas.proofs.laws.short_formulas_are_printable.Goals as goal

pub returns : goal.returns
returns c = proved.short_formulas_are_printable
