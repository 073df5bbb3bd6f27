use Rattle.trace_laws.proofs.Stopped.{wide_at, stuck_at, wide_large, stuck_illegal}
use Rattle.trace_laws.proofs.laws.schedules_stop_where_runs_do.Goals as goal

pub returns-clause-too_large : goal.returns-clause-too_large
returns-clause-too_large c p initial well s names k i r = (wide_at p well.numbered names s k i, λ w. wide_large p initial well r w.reaches w.wide k)

pub returns-clause-illegal : goal.returns-clause-illegal
returns-clause-illegal c p initial well s names k i r =
    (stuck_at p well.numbered names s k i, λ w. stuck_illegal p initial well r w.reaches w.narrow w.name w.is_next w.off k)
