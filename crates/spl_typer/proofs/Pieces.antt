-- How a conditional of a group is seen.
use Rattle.std.proofs.Common.{◌≡◌, Vec, Global, refl, ap, ◌∙◌}
use Rattle.st_form.specs.declared.formulas.Form.{Form}
use Rattle.st_form.specs.Plain.{plain}
use Rattle.st_program.specs.declared.trees.Inner as GInner
use Rattle.st_program.specs.declared.trees.Inner.TheBlock as TB
use Rattle.st_program.specs.Tree.{piece, piece_if}
use Rattle.st_program.specs.Plain.{plain_inner, plain_inners, plain_pieces}

row_items : {n : _} (row : GInner.Row_of-Inner n) → plain_inners row ≡ plain_pieces (GInner.items-the_row-Inner n row)
row_items GInner.end_of-Inner = refl
row_items (GInner.more_of-Inner x rest) = ap (piece (plain_inner x)) (row_items rest)

pub inner_if : (f : Form) (v w : Vec GInner.Inner Global) → plain_inner (GInner.If f v w) ≡ piece_if (plain f) (plain_pieces v.items) (plain_pieces w.items)
inner_if f v w =
    ap (λ ys. piece_if (plain f) ys (plain_inners (TB.hidden-the_row-Inner-0 w))) (row_items (TB.hidden-the_row-Inner-0 v) ∙ ap plain_pieces (GInner.items_hidden-the_row-Inner-0 v))
    ∙ ap (λ ns. piece_if (plain f) (plain_pieces v.items) ns) (row_items (TB.hidden-the_row-Inner-0 w) ∙ ap plain_pieces (GInner.items_hidden-the_row-Inner-0 w))

pub ruleset pieces = (inner_if)
