use Rattle.spl_semantics.proofs.EnabledNames.{enabled_step, step_enabled}
use Rattle.spl_semantics.proofs.laws.enabled_where_a_step_is.Goals as goal

pub returns : goal.returns
returns c p well s name = (enabled_step p well.numbered s name, λ d. step_enabled p well.numbered s name d.0 d.1)
