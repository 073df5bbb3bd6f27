use Rattle.std.proofs.Common.{◌≤◌, ◌⊎◌, inl, inr, length, arith}
use Rattle.std.proofs.lemmas.Result.{err_from_is_err_and}
use Rattle.st_linear.proofs.Joins.{joined-less, joined-more, joined-same, pushed, joined_up, joined-rest}
use Rattle.st_linear.proofs.Withins.{are_within-push, are_within-joint, are_within-at, entries_within-large, entries_within-is, are_within-rest, number-some, number-none, to_z-within}
use Rattle.st_linear.proofs.Answering.{Fails-whole}
use Rattle.st_linear.proofs.entries.join.Goals as goal
use Rattle.st_linear.proofs.entries.join.Goals.{then-loop-i-test+else-j-ys, else-loop-i-test}

pub sum_within-requires-clause-x_within : goal.sum_within-requires-clause-x_within
sum_within-requires-clause-x_within c = are_within-at c.args.limit _ _ c.requires.xs_within (omega arith)

pub sum_within-requires-clause-y_within : goal.sum_within-requires-clause-y_within
sum_within-requires-clause-y_within c = are_within-at c.args.limit _ _ c.requires.ys_within (omega arith)

pub loop-i-preserved-then-x-y : goal.loop-i-preserved-then-x-y
loop-i-preserved-then-x-y c = record {
  i_in = omega arith;
  j_in = omega arith;
  same = rw c.in_ok-push.ensures.ok (pushed _ _ _ _ _ c.loop-i.invariant.same (joined-less c.args.xs.now c.args.ys.now _ _ (omega arith) (omega arith) (omega arith)));
  out_small = rw c.in_ok-push.ensures.ok (are_within-push c.args.limit _ _ c.loop-i.invariant.out_small (are_within-at c.args.limit _ _ c.requires.xs_within (omega arith)));
}

pub loop-i-preserved-then-y-x : goal.loop-i-preserved-then-y-x
loop-i-preserved-then-y-x c = record {
  i_in = omega arith;
  j_in = omega arith;
  same = rw c.in_ok-push-2.ensures.ok (pushed _ _ _ _ _ c.loop-i.invariant.same (joined-more c.args.xs.now c.args.ys.now _ _ (omega arith) (omega arith) (omega arith)));
  out_small = rw c.in_ok-push-2.ensures.ok (are_within-push c.args.limit _ _ c.loop-i.invariant.out_small (are_within-at c.args.limit _ _ c.requires.ys_within (omega arith)));
}

pub loop-i-preserved : goal.loop-i-preserved
loop-i-preserved c =
    let e = number-some c.args.limit _ _ c.in_ok-sum.ensures in
    let same = joined-same c.args.xs.now c.args.ys.now c.loop-i.i c.loop-i.j (omega arith) (omega arith) (omega arith) (omega arith) in
    record {
      i_in = omega arith;
      j_in = omega arith;
      same = rw (c.in_ok-push_entry.ensures.ok, ← e.0, to_z-within c.args.limit _ (omega arith) e.1) (joined_up _ _ _ _ _ _ c.loop-i.invariant.same same);
      out_small = rw (c.in_ok-push_entry.ensures.ok, ← e.0, to_z-within c.args.limit _ (omega arith) e.1) (are_within-joint c.args.limit _ _ _ c.loop-i.invariant.out_small e.1);
    }

pub returns-in_err-sum : goal.returns-in_err-sum
returns-in_err-sum c =
    let p = err_from_is_err_and c.from_residual-in_err-sum.result c.from_residual-in_err-sum.ensures.1 in
    let same = joined-same c.args.xs.now c.args.ys.now c.loop-i.i c.loop-i.j (omega arith) (omega arith) (omega arith) (omega arith) in
    rw (p.1, p.2) (Fails-whole c.in_err-sum.field-0.0 _ _ (λ none. entries_within-large c.args.limit _ _ _ _ _ _ (omega arith) c.loop-i.invariant.same same (number-none c.args.limit _ none)) c.in_err-sum.ensures)

pub returns : goal.returns
returns c =
    let done : (length c.args.xs.now ≤ c.loop-i.i) ⊎ (length c.args.ys.now ≤ c.loop-i.j) =
    elim c.loop-i-test.branch [ then-loop-i-test+else-j-ys w ↦ inr (omega arith) | else-loop-i-test w ↦ inl (omega arith) ] in
    rw (c.in_ok-extend_from_slice-2.ensures.ok, c.in_ok-extend_from_slice.ensures.ok)
    (entries_within-is c.args.limit _ _ (joined-rest _ _ _ _ _ done c.loop-i.invariant.same) (are_within-rest c.args.limit _ _ _ _ _ c.loop-i.invariant.out_small c.requires.xs_within c.requires.ys_within))
