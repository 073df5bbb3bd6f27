use Rattle.spl_translation.specs.Translation.{translation}
use Rattle.spl_translation.proofs.Corresponding.{corresponds}
use Rattle.spl_translation.proofs.Observed.{run_seen, run_back}
use Rattle.bisimulation_laws.proofs.laws.runs_are_the_same.Goals as goal

pub returns : goal.returns
returns c variables initial p locations statements keeps o =
    let system = translation variables initial p locations in
    let both = corresponds variables initial p locations keeps.well keeps.typed keeps.start in (
      λ run. (run_seen p initial keeps.well.numbered system both o run, (run.state, run.first, run.seen.first_seen.state_is)),
      λ found. run_back p initial keeps.well.numbered system both o found.0 found.1.0 found.1.1 found.1.2,
    )
