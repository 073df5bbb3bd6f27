use Rattle.std.proofs.Common.{[], ◌∷◌, refl}
use Rattle.text_layouts.proofs.Layouts.{writes_further}
use Rattle.text_layouts.proofs.writing.push_spaces.Goals as goal

pub loop-preserved : goal.loop-preserved
loop-preserved c = writes_further _ _ _ (32 ∷ []) c.loop.invariant (refl, tt) c.in_ok-push.ensures.items
