use Rattle.spl_translation.proofs.Corresponding.{corresponds}
use Rattle.spl_translation.proofs.laws.programs_correspond.Goals as goal

pub returns : goal.returns
returns c variables initial p locations statements keeps = corresponds variables initial p locations keeps.well keeps.typed keeps.start
