use Rattle.program_limits.proofs.Settled as proved
use Rattle.program_limits.proofs.laws.limits_are_settled.Goals as goal

pub returns : goal.returns
returns c = proved.limits_are_settled
