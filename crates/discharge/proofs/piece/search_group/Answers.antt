use Rattle.std.proofs.Common.{length, refl, arith}
use Rattle.std.proofs.lemmas.Option.{slice_get_read}
use Rattle.farkas_check.specs.PlainProblem.{setting}
use Rattle.discharge.proofs.Marking.{searchable_at, marked, undecided_at}
use Rattle.discharge.proofs.piece.search_group.Goals as goal

pub unless_valid-requires : goal.unless_valid-requires
unless_valid-requires c =
    let cs = c.args.conditions.now in
    let at = slice_get_read cs (length cs) c.loop-place.place c.index-conditions-place.result refl (omega (arith, c.loop-place-test.true, c.requires.places)) c.index-conditions-place.is in
    let it = searchable_at (length c.args.variables.now) cs c.loop-place.place c.index-conditions-place.result c.requires.searchable at in
    record { few = c.requires.few; given = it.given; shown = it.shown; given_below = it.given_below; shown_below = it.shown_below; knows = c.loop-place.invariant.knows }

pub returns-in-Some-clause-undecided : goal.returns-in-Some-clause-undecided
returns-in-Some-clause-undecided c =
    let cs = c.args.conditions.now in
    let at = slice_get_read cs (length cs) c.loop-place.place c.index-conditions-place.result refl (omega (arith, c.loop-place-test.true, c.requires.places)) c.index-conditions-place.is in
    let told = rw c.in-Some.is at c.in_ok-verdict.ensures.exact in
    undecided_at (setting c.args.components.now c.args.variables.now) cs c.loop-place.place c.index-conditions-place.result c.in-Some.verdict at told

pub loop-place-preserved : goal.loop-place-preserved
loop-place-preserved c =
    let cs = c.args.conditions.now in
    let at = slice_get_read cs (length cs) c.loop-place.place c.index-conditions-place.result refl (omega (arith, c.loop-place-test.true, c.requires.places)) c.index-conditions-place.is in
    record {
      knows = c.in_ok-verdict.ensures.knows;
      marks = marked (setting c.args.components.now c.args.variables.now) cs c.loop-place.marks.items c.loop-place.place c.index-conditions-place.result at
          (rw c.in_default.is at c.in_ok-verdict.ensures.exact) c.loop-place.invariant.marks;
    }
