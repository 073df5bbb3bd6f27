use Rattle.screens.proofs.Growing.{with_line_feed}
use Rattle.screens.proofs.screen.Screen.end.Goals as goal

pub invariant_of-self : goal.invariant_of-self
unfolding lib.Utf8.encode
invariant_of-self c = record { tame = with_line_feed _ _ _ c.args.self.now.tame c.push.ensures.bytes }
