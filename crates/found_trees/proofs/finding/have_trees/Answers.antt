use Rattle.std.proofs.Common.{length, refl, arith}
use Rattle.std.proofs.lemmas.Option.{slice_get_read}
use Rattle.farkas_check.specs.PlainProblem.{setting}
use Rattle.found_trees.proofs.Trees.{searchable-at, one-more, all-have}
use Rattle.found_trees.proofs.finding.have_trees.Goals as goal

pub has_tree-requires : goal.has_tree-requires
has_tree-requires c =
    let cs = c.args.conditions.now in
    let there = slice_get_read cs (length cs) c.loop-place.place c.index-conditions-place.result refl (omega (arith, c.loop-place-test.true)) c.index-conditions-place.is in
    record { searchable = searchable-at (length c.args.variables.now) cs c.loop-place.place c.index-conditions-place.result c.requires there; knows = c.loop-place.invariant.knows }

pub loop-place-preserved : goal.loop-place-preserved
loop-place-preserved c =
    let k = setting c.args.components.now c.args.variables.now in
    let cs = c.args.conditions.now in
    let there = slice_get_read cs (length cs) c.loop-place.place c.index-conditions-place.result refl (omega (arith, c.loop-place-test.true)) c.index-conditions-place.is in
    record {
      knows = c.has_tree.ensures.knows;
      before = one-more k cs c.loop-place.place c.index-conditions-place.result there (c.in_ok-found.ensures.certified c.if-not-found.false) c.loop-place.invariant.before;
    }

pub returns : goal.returns
returns c = λ all. all-have (setting c.args.components.now c.args.variables.now) c.args.conditions.now c.loop-place.place (omega (arith, c.loop-place-test.false)) c.loop-place.invariant.before
