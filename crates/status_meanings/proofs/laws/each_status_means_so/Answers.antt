use Rattle.status_meanings.proofs.Meanings as proved
use Rattle.status_meanings.proofs.laws.each_status_means_so.Goals as goal

pub returns : goal.returns
returns c = proved.each_means_so c.what_is_spelled_is_read.ensures c.read_is_typed.ensures c.runs_end_so.ensures
