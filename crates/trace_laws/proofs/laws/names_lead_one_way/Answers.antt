use Rattle.trace_laws.proofs.Ways.{one_way}
use Rattle.trace_laws.proofs.laws.names_lead_one_way.Goals as goal

pub returns : goal.returns
returns c p initial well = one_way p initial well
