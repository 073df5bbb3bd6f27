use Rattle.std.proofs.Common.{refl, arith, ◌^◌}
use Rattle.std.proofs.lemmas.List.{take_more}
use Rattle.st_linear.proofs.Joins.{none}
use Rattle.st_linear.proofs.Withins.{are_within-push}
use Rattle.lean_elimination.proofs.Narrowing.{to_z-narrow}
use Rattle.lean_elimination.proofs.top.narrow_entries.Goals as goal

pub loop-e-preserved : goal.loop-e-preserved
loop-e-preserved c =
    let w = c.in_ok-coefficient.ensures.within in
    let n = to_z-narrow (2 ^ 62) c.in_ok-coefficient.coefficient (omega arith) w in
    record {
      same = rw (c.in_ok-push.ensures.ok, n, c.in_ok-coefficient.ensures.value, c.loop-e.invariant.same, take_more c.args.entries.now c.loop-e.e-index none (omega arith)) refl;
      within = rw (c.in_ok-push.ensures.ok, n) (are_within-push (2 ^ 62) c.loop-e.out.items _ c.loop-e.invariant.within w);
    }
