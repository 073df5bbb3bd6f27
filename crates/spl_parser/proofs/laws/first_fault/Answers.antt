use Rattle.spl_parser.proofs.ProgramTheorems as proved
use Rattle.spl_parser.proofs.laws.first_fault.Goals as goal

pub returns : goal.returns
returns c = proved.first_fault
