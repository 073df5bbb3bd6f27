use Rattle.std.proofs.Common.{length, refl, arith}
use Rattle.std.proofs.lemmas.Option.{slice_get_read}
use Rattle.farkas_check.specs.PlainProblem.{setting}
use Rattle.discharge.proofs.Marking.{searchable_at}
use Rattle.unclosed_conditions.proofs.Leaving.{found-closed}
use Rattle.unclosed_conditions.proofs.closing.is_found.Goals as goal

pub find-requires : goal.find-requires
find-requires c =
    let cs = c.args.conditions.now in
    let at = slice_get_read cs (length cs) c.args.place c.index-conditions-place.result refl (omega (arith, c.requires.place)) c.index-conditions-place.is in
    let it = searchable_at (length c.args.variables.now) cs c.args.place c.index-conditions-place.result c.requires.searchable at in
    record { given = it.given; shown = it.shown }

pub returns : goal.returns
returns c =
    let cs = c.args.conditions.now in
    let at = slice_get_read cs (length cs) c.args.place c.index-conditions-place.result refl (omega (arith, c.requires.place)) c.index-conditions-place.is in
    found-closed (setting c.args.components.now c.args.variables.now) cs c.args.place c.index-conditions-place.result c.in_ok-found.found at c.in_ok-found.ensures.valid
    c.in_ok-found.ensures.limited c.is_some.result c.is_some.ensures
