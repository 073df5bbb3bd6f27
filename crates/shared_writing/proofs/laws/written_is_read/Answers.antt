use Rattle.shared_writing.proofs.Written.{written_read}
use Rattle.shared_writing.proofs.laws.written_is_read.Goals as goal

pub returns : goal.returns
returns c = written_read
