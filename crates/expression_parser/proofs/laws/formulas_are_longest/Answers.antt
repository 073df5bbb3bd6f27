use Rattle.expression_parser.proofs.FormulaTheorems as proved
use Rattle.expression_parser.proofs.laws.formulas_are_longest.Goals as goal

pub returns : goal.returns
returns c = proved.formulas_are_longest
