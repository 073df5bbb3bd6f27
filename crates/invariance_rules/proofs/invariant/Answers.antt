use Rattle.vc_generator.proofs.Growing.{one_then}
use Rattle.invariance_rules.proofs.invariant.Goals as goal

pub returns-in_ok-entails-in-Some : goal.returns-in_ok-entails-in-Some
returns-in_ok-entails-in-Some c =
    let begun = rw c.plainly-name.ensures at c.in_ok-entails-in-Some.ensures in
    rw c.in-Some.is (one_then _ _ _ _ _ _ begun.0 begun.1 c.keep_always-in-Some.ensures)
