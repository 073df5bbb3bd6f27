use Rattle.st_program.specs.Plain.{plain_children}
use Rattle.spl_semantics.specs.Data.{StoreFits}
use Rattle.spl_semantics.specs.Plain.{plain_state}
use Rattle.trace_player.proofs.Outcomes.{Playing}
use Rattle.trace_player.proofs.playing.play_from.Given as goal

abbrev pub invariant-loop-position : goal.invariant-loop-position
invariant-loop-position l = record {
  fits : StoreFits l.program.variables l.current.store.items;
  playing : Playing (plain_children l.program.processes) (plain_state l.fn.state) l.names l.states.items l.enabled.items l.current l.position;
}
