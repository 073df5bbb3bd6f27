use Rattle.spl_parser.proofs.ProgramTheorems as proved
use Rattle.spl_parser.proofs.laws.what_is_spelled_is_read.Goals as goal

pub returns : goal.returns
returns c = proved.what_is_spelled_is_read
