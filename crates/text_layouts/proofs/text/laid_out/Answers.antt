use Rattle.std.proofs.Common.{◌≡◌, [], List, ℕ, None, subst}
use Rattle.text_layouts.specs.declared.piece.Piece.{Piece}
use Rattle.text_layouts.specs.Written.{Writes}
use Rattle.text_layouts.proofs.Layouts.{says_the_same}
use Rattle.text_layouts.proofs.text.laid_out.Goals as goal

pub returns-clause-laid : goal.returns-clause-laid
returns-clause-laid c =
    let out = c.push_lines.new.out.items in
    let ps = c.in_ok-pieces.pieces.items in
    let P : List ℕ → Type 0 = λ old. Writes old out ps None in
    let Q : List Piece → Type 0 = λ qs. Writes c.new-out.result.items out qs None in
    says_the_same c.args.text.now out ps c.in_ok-pieces.ensures.made (subst P c.new-out.ensures.items (subst Q c.as_slice.ensures.value c.in_ok-push_lines.ensures))
