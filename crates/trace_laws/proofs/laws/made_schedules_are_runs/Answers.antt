use Rattle.trace_laws.proofs.Played.{made_follows, run_made}
use Rattle.trace_laws.proofs.laws.made_schedules_are_runs.Goals as goal

pub returns : goal.returns
returns c p initial well s names later k r = (made_follows p well.numbered names s k later, run_made p initial well names s k later r)
