use Rattle.search_laws.proofs.Refuting.{refuted}
use Rattle.search_laws.proofs.laws.shown_states_refute.Goals as goal

pub returns : goal.returns
returns c = refuted
