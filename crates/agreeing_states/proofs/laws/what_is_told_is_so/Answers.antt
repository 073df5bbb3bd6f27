use Rattle.agreeing_states.proofs.Agreed.{told-is}
use Rattle.agreeing_states.proofs.laws.what_is_told_is_so.Goals as goal

pub returns : goal.returns
returns c = λ k store fronts f b t agrees h. told-is k store fronts t agrees f b h
