use Rattle.spl_translation.specs.Translation.{translation}
use Rattle.spl_translation.proofs.Corresponding.{corresponds}
use Rattle.spl_translation.proofs.Observed.{run_back}
use Rattle.spl_translation.proofs.laws.runs_come_from_runs.Goals as goal

pub returns : goal.returns
returns c variables initial p locations statements keeps o run s is_first begins =
    let both = corresponds variables initial p locations keeps.well keeps.typed keeps.start in
    run_back p initial keeps.well.numbered (translation variables initial p locations) both o run s is_first begins
