use Rattle.fair_runs.proofs.Promising as proved
use Rattle.fair_runs.proofs.laws.promise_is_kept.Goals as goal

pub returns : goal.returns
returns c = proved.promise_is_kept
