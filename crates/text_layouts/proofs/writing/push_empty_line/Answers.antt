use Rattle.std.proofs.Common.{[], ◌∷◌, refl}
use Rattle.text_layouts.proofs.Layouts.{writes_blanks}
use Rattle.text_layouts.proofs.writing.push_empty_line.Goals as goal

pub returns-in_ok-push : goal.returns-in_ok-push
returns-in_ok-push c = writes_blanks _ _ (10 ∷ []) (refl, tt) c.in_ok-push.ensures.items
