use Rattle.spl_parser.proofs.ProgramTheorems as proved
use Rattle.spl_parser.proofs.laws.limits_are_met.Goals as goal

pub returns : goal.returns
returns c = proved.limits_are_met
