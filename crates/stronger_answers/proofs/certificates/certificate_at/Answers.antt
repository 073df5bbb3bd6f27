use Rattle.std.proofs.Common.{length, refl, arith}
use Rattle.std.proofs.lemmas.Option.{slice_get_read}
use Rattle.discharge.proofs.Marking.{searchable_at}
use Rattle.stronger_answers.proofs.certificates.certificate_at.Goals as goal

pub decide-requires : goal.decide-requires
decide-requires c =
    let cs = c.args.conditions.now in
    let at = slice_get_read cs (length cs) c.args.place c.index-conditions-place.result refl (omega (arith, c.requires.place)) c.index-conditions-place.is in
    let it = searchable_at (length c.args.variables.now) cs c.args.place c.index-conditions-place.result c.requires.searchable at in
    record { few = c.requires.few; given = it.given; shown = it.shown; given_below = it.given_below; shown_below = it.shown_below; knows = c.requires.knows }

pub find-requires : goal.find-requires
find-requires c =
    let cs = c.args.conditions.now in
    let at = slice_get_read cs (length cs) c.args.place c.index-conditions-place.result refl (omega (arith, c.requires.place)) c.index-conditions-place.is in
    let it = searchable_at (length c.args.variables.now) cs c.args.place c.index-conditions-place.result c.requires.searchable at in
    record { given = it.given; shown = it.shown }
