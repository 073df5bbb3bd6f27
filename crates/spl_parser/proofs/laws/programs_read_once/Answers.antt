use Rattle.spl_parser.proofs.ProgramTheorems as proved
use Rattle.spl_parser.proofs.laws.programs_read_once.Goals as goal

pub returns : goal.returns
returns c = proved.programs_read_once
