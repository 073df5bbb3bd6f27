use Rattle.screens.proofs.Growing.{with_character}
use Rattle.screens.proofs.screen.Screen.character.Goals as goal

pub invariant_of-self : goal.invariant_of-self
invariant_of-self c = record { tame = with_character _ _ _ c.shown.result c.args.self.now.tame c.shown.ensures c.push.ensures.bytes }
