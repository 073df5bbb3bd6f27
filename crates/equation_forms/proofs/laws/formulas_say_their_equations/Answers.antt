use Rattle.equation_forms.proofs.Truths.{says}
use Rattle.equation_forms.proofs.laws.formulas_say_their_equations.Goals as goal

pub returns : goal.returns
returns c = λ k place s e control owned entries. says s k place control e owned entries
