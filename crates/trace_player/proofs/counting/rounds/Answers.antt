use Rattle.st_program.specs.Plain.{plain_children}
use Rattle.spl_semantics.specs.Observed.{observed}
use Rattle.trace_player.proofs.counting.rounds.Goals as goal

pub returns : goal.returns
returns c = λ s later h. c.in_ok-counts.ensures (observed (plain_children c.args.program.now.processes) s later) (c.in_ok-course.ensures.shows s later h)
