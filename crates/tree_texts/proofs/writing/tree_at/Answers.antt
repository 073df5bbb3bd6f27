use Rattle.std.proofs.Common.{length, refl, arith}
use Rattle.std.proofs.lemmas.Option.{slice_get_read}
use Rattle.discharge.proofs.Marking.{searchable_at}
use Rattle.tree_texts.proofs.writing.tree_at.Goals as goal

pub find_tree-requires : goal.find_tree-requires
find_tree-requires c =
    let cs = c.args.conditions.now in
    let at = slice_get_read cs (length cs) c.args.place c.index-conditions-place.result refl (omega (arith, c.requires.place)) c.index-conditions-place.is in
    let it = searchable_at (length c.args.variables.now) cs c.args.place c.index-conditions-place.result c.requires.searchable at in
    record { given = it.given; shown = it.shown; knows = c.requires.knows }
