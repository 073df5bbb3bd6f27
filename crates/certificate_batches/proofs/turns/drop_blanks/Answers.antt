use Rattle.certificate_batches.proofs.Blanks.{no_header, place_is_settled, blanks_dropped}
use Rattle.certificate_batches.proofs.turns.drop_blanks.Goals as goal

pub returns-clause-place : goal.returns-clause-place
returns-clause-place c = place_is_settled c.args.reader.now c.trailing.new.self c.trailing.result (no_header c.args.reader.now c.requires.no_header) c.trailing.ensures.taken c.trailing.ensures.place

pub returns-clause-dropped : goal.returns-clause-dropped
returns-clause-dropped c = blanks_dropped c.args.reader.now c.trailing.new.self (no_header c.args.reader.now c.requires.no_header) c.trailing.ensures.taken
