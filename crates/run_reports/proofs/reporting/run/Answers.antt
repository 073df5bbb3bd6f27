use Rattle.std.proofs.Common.{sym, ◌∙◌, arith}
use Rattle.run_reports.proofs.reporting.run.Goals as goal

pub returns-in-Ok : goal.returns-in-Ok
returns-in-Ok c =
    let long = c.in-Ok.ensures.long in
    record { long = long.0 ∙ sym long.1; few = omega (arith, long.1, c.requires.playable.few) }
