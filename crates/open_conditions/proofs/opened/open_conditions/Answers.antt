use Rattle.std.proofs.Common.{sym, subst, arith}
use Rattle.farkas_check.specs.PlainProblem.{setting}
use Rattle.open_conditions.specs.Open.{AreOpen}
use Rattle.open_conditions.proofs.Places.{turn, whole, first_is, right_more}
use Rattle.open_conditions.proofs.opened.open_conditions.Goals as goal

pub loop-place-preserved : goal.loop-place-preserved
loop-place-preserved g c =
    let k = setting c.args.components.now c.args.variables.now in
    let cs = c.args.conditions.now in
    let i = c.loop-place.place in
    record {
      knows = c.in_ok-found.ensures.knows;
      places = turn k cs i c.loop-place.kept.items c.keep.new.kept.items c.in_ok-found.found (omega (arith, c.loop-place-test.true)) c.in_ok-found.ensures.exact c.in_ok-keep.ensures c.loop-place.invariant.places;
      right = subst (AreOpen k cs) (sym c.in_ok-keep.ensures) (right_more k cs i c.loop-place.kept.items c.in_ok-found.found c.in_ok-found.ensures.exact c.loop-place.invariant.right);
    }

pub returns-clause-all : goal.returns-clause-all
returns-clause-all g c =
    whole (setting c.args.components.now c.args.variables.now) c.args.conditions.now c.loop-place.place c.loop-place.kept.items (omega (arith, c.loop-place-test.false)) c.loop-place.invariant.places

pub returns-clause-first : goal.returns-clause-first
returns-clause-first g c =
    let k = setting c.args.components.now c.args.variables.now in
    first_is k c.args.conditions.now c.loop-place.kept.items
    (whole k c.args.conditions.now c.loop-place.place c.loop-place.kept.items (omega (arith, c.loop-place-test.false)) c.loop-place.invariant.places)
