use Rattle.spl_translation.specs.Translation.{translation}
use Rattle.spl_translation.proofs.Corresponding.{corresponds}
use Rattle.bisimulation_laws.proofs.Bisimilar.{bisimilar}
use Rattle.bisimulation_laws.proofs.laws.programs_are_bisimilar.Goals as goal

pub returns : goal.returns
returns c variables initial p locations statements keeps =
    bisimilar p initial (translation variables initial p locations) (corresponds variables initial p locations keeps.well keeps.typed keeps.start)
