use Rattle.spl_semantics.proofs.CasesAgree.{in_lists, of_lists}
use Rattle.spl_semantics.proofs.laws.steps_by_cases.Goals as goal

pub returns : goal.returns
returns c p well rs store a = (λ m. of_lists p well.numbered rs store a m, λ d. in_lists p well.numbered d)
