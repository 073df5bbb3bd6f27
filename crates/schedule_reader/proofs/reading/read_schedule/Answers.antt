use Rattle.schedule_reader.proofs.Answering.{given_so}
use Rattle.schedule_reader.proofs.reading.read_schedule.Goals as goal

pub returns : goal.returns
returns c = given_so _ _ _ _ _ _ c.new-tokens.ensures.tokens c.schedule.ensures
