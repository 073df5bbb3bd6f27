use Rattle.program_limits.proofs.Whole as proved
use Rattle.program_limits.proofs.laws.limits_in_order.Goals as goal

pub returns : goal.returns
returns c = proved.limits_in_order
