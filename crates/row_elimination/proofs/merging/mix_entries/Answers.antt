use Rattle.std.proofs.Common.{◌≤◌, ◌⊎◌, inl, inr, length, ap, arith}
use mir.Syntax.{w128}
use mir.Val.{of_z}
use Rattle.std.proofs.lemmas.Result.{err_from_is_err_and}
use Rattle.st_linear.proofs.Answering.{Fails-whole}
use Rattle.st_linear.proofs.Withins.{to_z-within}
use Rattle.row_elimination.proofs.Merges.{merges-first, merges-second, merges-both, mixed_number-some, appended-some, appended-none}
use Rattle.row_elimination.proofs.Ends.{first-large, second-large, both-large, first_rest-large, second_rest-large, merged}
use Rattle.row_elimination.proofs.merging.mix_entries.Goals as goal
use Rattle.row_elimination.proofs.merging.mix_entries.Goals.{then-loop-i-test+else-j-ys, else-loop-i-test}

pub loop-i-preserved-then-a-b : goal.loop-i-preserved-then-a-b
loop-i-preserved-then-a-b c =
    let p = appended-some c.args.limit _ _ _ _ c.in_ok-push_multiple.ensures in
    record {
      i_in = omega arith;
      j_in = omega arith;
      merging = rw (← p.0) (merges-first c.args.limit c.args.x.now c.args.xs.now c.args.y.now c.args.ys.now _ c.loop-i.i c.loop-i.j c.loop-i.invariant.merging (omega arith) (omega arith) (λ e. c.if-b-eq0.false (ap (of_z w128) e)) (omega arith) p.1);
    }

pub loop-i-preserved-then-b-a : goal.loop-i-preserved-then-b-a
loop-i-preserved-then-b-a c =
    let p = appended-some c.args.limit _ _ _ _ c.in_ok-push_multiple-2.ensures in
    record {
      i_in = omega arith;
      j_in = omega arith;
      merging = rw (← p.0) (merges-second c.args.limit c.args.x.now c.args.xs.now c.args.y.now c.args.ys.now _ c.loop-i.i c.loop-i.j c.loop-i.invariant.merging (omega arith) (omega arith) (λ e. c.if-a-eq0.false (ap (of_z w128) e)) (omega arith) p.1);
    }

pub loop-i-preserved : goal.loop-i-preserved
loop-i-preserved c =
    let a = mixed_number-some c.args.limit _ _ _ _ _ c.in_ok-sum.ensures in
    record {
      i_in = omega arith;
      j_in = omega arith;
      merging = rw (c.in_ok-push_entry.ensures.ok, ← a.is, to_z-within c.args.limit _ (omega arith) a.sum) (merges-both c.args.limit c.args.x.now c.args.xs.now c.args.y.now c.args.ys.now _ c.loop-i.i c.loop-i.j _ c.loop-i.invariant.merging (omega arith) (omega arith) (λ e. c.if-a-eq0.false (ap (of_z w128) e)) (λ e. c.if-b-eq0.false (ap (of_z w128) e)) (omega arith) a);
    }

pub returns-in_err-push_multiple : goal.returns-in_err-push_multiple
returns-in_err-push_multiple c =
    let p = err_from_is_err_and c.from_residual-in_err-push_multiple.result c.from_residual-in_err-push_multiple.ensures.1 in
    rw (p.1, p.2) (Fails-whole c.in_err-push_multiple.field-0.0 _ _ (λ none. first-large c.args.limit c.args.x.now c.args.xs.now c.args.y.now c.args.ys.now _ c.loop-i.i c.loop-i.j c.loop-i.invariant.merging (omega arith) (omega arith) (appended-none c.args.limit _ _ _ none)) c.in_err-push_multiple.ensures)

pub returns-in_err-push_multiple-2 : goal.returns-in_err-push_multiple-2
returns-in_err-push_multiple-2 c =
    let p = err_from_is_err_and c.from_residual-in_err-push_multiple-2.result c.from_residual-in_err-push_multiple-2.ensures.1 in
    rw (p.1, p.2) (Fails-whole c.in_err-push_multiple-2.field-0.0 _ _ (λ none. second-large c.args.limit c.args.x.now c.args.xs.now c.args.y.now c.args.ys.now _ c.loop-i.i c.loop-i.j c.loop-i.invariant.merging (omega arith) (omega arith) (appended-none c.args.limit _ _ _ none)) c.in_err-push_multiple-2.ensures)

pub returns-in_err-sum : goal.returns-in_err-sum
returns-in_err-sum c =
    let p = err_from_is_err_and c.from_residual-in_err-sum.result c.from_residual-in_err-sum.ensures.1 in
    rw (p.1, p.2) (Fails-whole c.in_err-sum.field-0.0 _ _ (λ none. both-large c.args.limit c.args.x.now c.args.xs.now c.args.y.now c.args.ys.now _ c.loop-i.i c.loop-i.j c.loop-i.invariant.merging (omega arith) (omega arith) (omega arith) (λ e. c.if-a-eq0.false (ap (of_z w128) e)) (λ e. c.if-b-eq0.false (ap (of_z w128) e)) (omega arith) none) c.in_err-sum.ensures)

pub returns-in_err-push_multiples : goal.returns-in_err-push_multiples
returns-in_err-push_multiples c =
    let p = err_from_is_err_and c.from_residual-in_err-push_multiples.result c.from_residual-in_err-push_multiples.ensures.1 in
    rw (p.1, p.2) (Fails-whole c.in_err-push_multiples.field-0.0 _ _ (λ none. first_rest-large c.args.limit c.args.x.now c.args.xs.now c.args.y.now c.args.ys.now _ c.loop-i.i c.loop-i.j c.loop-i.invariant.merging none) c.in_err-push_multiples.ensures)

pub returns-in_err-push_multiples-2 : goal.returns-in_err-push_multiples-2
returns-in_err-push_multiples-2 c =
    let p = err_from_is_err_and c.from_residual-in_err-push_multiples-2.result c.from_residual-in_err-push_multiples-2.ensures.1 in
    rw (p.1, p.2) (Fails-whole c.in_err-push_multiples-2.field-0.0 _ _ (λ none. second_rest-large c.args.limit c.args.x.now c.args.xs.now c.args.y.now c.args.ys.now _ c.loop-i.i c.loop-i.j _ c.loop-i.invariant.merging none) c.in_err-push_multiples-2.ensures)

pub returns : goal.returns
returns c =
    let done : (length c.args.xs.now ≤ c.loop-i.i) ⊎ (length c.args.ys.now ≤ c.loop-i.j) =
    elim c.loop-i-test.branch [ then-loop-i-test+else-j-ys w ↦ inr (omega arith) | else-loop-i-test w ↦ inl (omega arith) ] in
    merged c.args.limit c.args.x.now c.args.xs.now c.args.y.now c.args.ys.now _ c.loop-i.i c.loop-i.j _ _ c.loop-i.invariant.merging done c.in_ok-push_multiples.ensures c.in_ok-push_multiples-2.ensures
