use Rattle.trace_laws.proofs.OneRun.{one_run}
use Rattle.trace_laws.proofs.laws.names_make_one_run.Goals as goal

pub returns : goal.returns
returns c p initial well s later other r = one_run p initial well later other s r
