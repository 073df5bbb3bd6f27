use Rattle.step_words.proofs.Stated.{stated}
use Rattle.step_words.proofs.laws.requests_are_stated.Goals as goal

pub returns : goal.returns
returns c = stated
