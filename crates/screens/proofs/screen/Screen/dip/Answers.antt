use Rattle.screens.proofs.Growing.{with_ink}
use Rattle.screens.proofs.screen.Screen.dip.Goals as goal

pub invariant_of-self : goal.invariant_of-self
invariant_of-self c = record { tame = with_ink _ _ _ _ c.args.self.now.tame c.code.ensures c.push_str.ensures.bytes }
