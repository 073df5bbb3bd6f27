use Rattle.status_meanings.proofs.Completeness as proved
use Rattle.status_meanings.proofs.laws.runs_are_complete.Goals as goal

pub returns : goal.returns
returns c = proved.runs_are_complete c.runs_end_so.ensures
