use Rattle.std.proofs.Common.{◌≤◌, ◌⊎◌, inl, inr, length, ap, arith, rules}
use mir.Syntax.{w64}
use mir.Val.{of_z}
use Rattle.row_elimination.proofs.Merges.{merges-first, merges-second, merges-second_none, merges-both, mixed_number-some}
use Rattle.lean_elimination.proofs.Narrowing.{to_z-narrow, pushed-is}
use Rattle.row_elimination.proofs.Ends.{merged}
use Rattle.lean_elimination.proofs.merging.mix_entries.Goals as goal
use Rattle.lean_elimination.proofs.merging.mix_entries.Goals.{then-loop-i-test+else-j-ys, else-loop-i-test}

pub loop-i-preserved-then-b-eq0 : goal.loop-i-preserved-then-b-eq0
loop-i-preserved-then-b-eq0 c = record {
  i_in = omega arith;
  j_in = omega arith;
  merging = merges-second_none c.args.limit c.args.x.now c.args.xs.now c.args.y.now c.args.ys.now _ c.loop-i.i c.loop-i.j c.loop-i.invariant.merging (omega arith) (search rules);
}

pub loop-i-preserved-then-a-b : goal.loop-i-preserved-then-a-b
loop-i-preserved-then-a-b c =
    let w = c.in_ok-coefficient.ensures.within in
    record {
      i_in = omega arith;
      j_in = omega arith;
      merging = rw (c.in_ok-push_entry.ensures, to_z-narrow c.args.limit _ (omega arith) w, c.in_ok-coefficient.ensures.value) (merges-first c.args.limit c.args.x.now c.args.xs.now c.args.y.now c.args.ys.now _ c.loop-i.i c.loop-i.j c.loop-i.invariant.merging (omega arith) (omega arith) (λ e. c.if-b-eq0.false (ap (of_z w64) e)) (omega arith) (rw c.in_ok-coefficient.ensures.value at w));
    }

pub loop-i-preserved-then-b-a : goal.loop-i-preserved-then-b-a
loop-i-preserved-then-b-a c =
    let w = c.in_ok-coefficient-2.ensures.within in
    record {
      i_in = omega arith;
      j_in = omega arith;
      merging = rw (c.in_ok-push_entry-2.ensures, to_z-narrow c.args.limit _ (omega arith) w, c.in_ok-coefficient-2.ensures.value) (merges-second c.args.limit c.args.x.now c.args.xs.now c.args.y.now c.args.ys.now _ c.loop-i.i c.loop-i.j c.loop-i.invariant.merging (omega arith) (omega arith) (λ e. c.if-a-eq0.false (ap (of_z w64) e)) (omega arith) (rw c.in_ok-coefficient-2.ensures.value at w));
    }

pub loop-i-preserved : goal.loop-i-preserved
loop-i-preserved c =
    let a = mixed_number-some c.args.limit _ _ _ _ _ c.in_ok-sum.ensures in
    record {
      i_in = omega arith;
      j_in = omega arith;
      merging = rw (c.in_ok-push_entry-3.ensures, ← a.is, to_z-narrow c.args.limit _ (omega arith) a.sum) (merges-both c.args.limit c.args.x.now c.args.xs.now c.args.y.now c.args.ys.now _ c.loop-i.i c.loop-i.j _ c.loop-i.invariant.merging (omega arith) (omega arith) (λ e. c.if-a-eq0.false (ap (of_z w64) e)) (λ e. c.if-b-eq0.false (ap (of_z w64) e)) (omega arith) a);
    }

pub returns : goal.returns
returns c =
    let done : (length c.args.xs.now ≤ c.loop-i.i) ⊎ (length c.args.ys.now ≤ c.loop-i.j) =
    elim c.loop-i-test.branch [ then-loop-i-test+else-j-ys w ↦ inr (omega arith) | else-loop-i-test w ↦ inl (omega arith) ] in
    merged c.args.limit c.args.x.now c.args.xs.now c.args.y.now c.args.ys.now _ c.loop-i.i c.loop-i.j _ _ c.loop-i.invariant.merging done
    (pushed-is c.args.limit _ _ c.args.x.now _ c.in_ok-push_multiples.ensures.value c.in_ok-push_multiples.ensures.within)
    (pushed-is c.args.limit _ _ c.args.y.now _ c.in_ok-push_multiples-2.ensures.value c.in_ok-push_multiples-2.ensures.within)
