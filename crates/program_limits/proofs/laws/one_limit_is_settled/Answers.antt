use Rattle.program_limits.proofs.Settled as proved
use Rattle.program_limits.proofs.laws.one_limit_is_settled.Goals as goal

pub returns : goal.returns
returns c = proved.one_limit_is_settled
