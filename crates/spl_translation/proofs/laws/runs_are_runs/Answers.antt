use Rattle.spl_translation.specs.Translation.{translation}
use Rattle.spl_translation.proofs.Corresponding.{corresponds}
use Rattle.spl_translation.proofs.Observed.{run_seen}
use Rattle.spl_translation.proofs.laws.runs_are_runs.Goals as goal

pub returns : goal.returns
returns c variables initial p locations statements keeps o run =
    let both = corresponds variables initial p locations keeps.well keeps.typed keeps.start in
    run_seen p initial keeps.well.numbered (translation variables initial p locations) both o run
