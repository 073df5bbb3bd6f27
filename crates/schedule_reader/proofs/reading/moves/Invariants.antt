use Rattle.st_tokens.specs.Stream.{stream}
use Rattle.st_program.specs.Plain.{plain_children}
use Rattle.st_reading.specs.Reading.{size}
use Rattle.schedule_reader.specs.Moves.{opening_in, next_move_of}
use Rattle.schedule_reader.specs.Schedules.{moves_of}
use Rattle.schedule_reader.proofs.Going.{Going}
use Rattle.schedule_reader.proofs.reading.moves.Given as goal

abbrev pub invariant-items : goal.invariant-items
invariant-items l = Going opening_in (next_move_of l.names (plain_children l.program.processes)) l.moves.items (stream l.tokens) (stream l.fn.tokens) (moves_of l.names (plain_children l.program.processes) (stream l.fn.tokens))

abbrev pub decreases-items : goal.decreases-items
decreases-items l = size (stream l.tokens)
