use Rattle.std.proofs.Common.{◌≡◌, false, arith}
use Rattle.std.specs.Prelude.{◌==◌}
use Rattle.std.proofs.lemmas.Bool.Decides.{nat_tests}
use Rattle.farkas_check.proofs.Loops.{split-on, split-past}
use Rattle.farkas_check.proofs.Bounds.{settled-more, settled-found}
use Rattle.farkas_check.proofs.splits.find_disjunction.Goals as goal
use Rattle.farkas_check.proofs.splits.find_disjunction.Goals.{in-Some+else-left-eq0, in_default}

pub loop-place-preserved : goal.loop-place-preserved
loop-place-preserved c = record {
  settled = (settled-more c.args.fs.now c.loop-place.place c.index-fs-place.result (omega arith) c.index-fs-place.is c.loop-place.invariant.settled).1;
  same = elim c.match-disjuncts.branch [
    | in-Some+else-left-eq0 w ↦
        let other : (c.loop-place.left == 0) ≡ false = grind (arith, nat_tests) in
        rw w.left-is (split-past c.args.fs.now c.loop-place.place c.index-fs-place.result c.loop-place.left _ _ (omega arith) c.index-fs-place.is w.in-Some.ensures other c.loop-place.invariant.same)
    | in_default w ↦
        rw w.left-is (split-on c.args.fs.now c.loop-place.place c.index-fs-place.result c.loop-place.left _ (omega arith) c.index-fs-place.is w.in_default.ensures c.loop-place.invariant.same)
  ];
}

pub returns-then-left-eq0-clause-settled : goal.returns-then-left-eq0-clause-settled
returns-then-left-eq0-clause-settled c =
    settled-found _ _ c.in-Some.ensures (settled-more c.args.fs.now c.loop-place.place c.index-fs-place.result (omega arith) c.index-fs-place.is c.loop-place.invariant.settled).0
