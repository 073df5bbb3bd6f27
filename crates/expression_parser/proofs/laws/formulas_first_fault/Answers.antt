use Rattle.expression_parser.proofs.FormulaTheorems as proved
use Rattle.expression_parser.proofs.laws.formulas_first_fault.Goals as goal

pub returns : goal.returns
returns c = proved.formulas_first_fault
