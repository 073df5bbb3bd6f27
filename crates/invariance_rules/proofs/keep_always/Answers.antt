use Rattle.vc_generator.proofs.Growing.{one_then}
use Rattle.invariance_rules.proofs.keep_always.Goals as goal

pub returns : goal.returns
returns c =
    let begun = rw c.plainly-name.ensures at c.in_ok-start.ensures in
    one_then _ _ _ _ _ _ begun.0 begun.1 c.each_mode.ensures
