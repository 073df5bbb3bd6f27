use Rattle.std.proofs.Common.{length, refl, arith}
use Rattle.std.proofs.lemmas.Option.{slice_get_read}
use Rattle.farkas_check.specs.PlainProblem.{setting}
use Rattle.discharge.proofs.Marking.{searchable_at, by_search, undecided_at}
use Rattle.open_conditions.proofs.opened.open_at.Goals as goal

pub unless_valid-requires : goal.unless_valid-requires
unless_valid-requires c =
    let cs = c.args.conditions.now in
    let at = slice_get_read cs (length cs) c.args.place c.index-conditions-place.result refl (omega (arith, c.requires.place)) c.index-conditions-place.is in
    let it = searchable_at (length c.args.variables.now) cs c.args.place c.index-conditions-place.result c.requires.searchable at in
    record { few = c.requires.few; given = it.given; shown = it.shown; given_below = it.given_below; shown_below = it.shown_below; knows = c.requires.knows }

pub returns-in-None-clause-exact : goal.returns-in-None-clause-exact
returns-in-None-clause-exact c = λ d there.
    (let cs = c.args.conditions.now in
    let at = slice_get_read cs (length cs) c.args.place c.index-conditions-place.result refl (omega (arith, c.requires.place)) c.index-conditions-place.is in
    by_search (setting c.args.components.now c.args.variables.now) cs c.args.place c.index-conditions-place.result d at (rw c.in-None.is at c.in_ok-unless_valid.ensures.exact) there)

pub returns-in-Some-clause-exact : goal.returns-in-Some-clause-exact
returns-in-Some-clause-exact c =
    let cs = c.args.conditions.now in
    let at = slice_get_read cs (length cs) c.args.place c.index-conditions-place.result refl (omega (arith, c.requires.place)) c.index-conditions-place.is in
    (refl, undecided_at (setting c.args.components.now c.args.variables.now) cs c.args.place c.index-conditions-place.result c.in-Some.verdict at (rw c.in-Some.is at c.in_ok-unless_valid.ensures.exact))
