use Rattle.std.proofs.Common.{arith}
use Rattle.std.proofs.lemmas.Result.{err_from_is_err_and}
use Rattle.st_linear.proofs.Answering.{Fails-whole}
use Rattle.st_linear.proofs.Joins.{joined_up}
use Rattle.st_linear.proofs.Withins.{are_within-joint, entries_within-large, entries_within-is, number-some, number-none, to_z-within}
use Rattle.st_linear.proofs.Fitting.{scaled_entries-more, scaled_entries-end}
use Rattle.st_linear.proofs.entries.scale_entries.Goals as goal

pub loop-e-preserved : goal.loop-e-preserved
loop-e-preserved c =
    let e = number-some c.args.limit _ _ c.in_ok-coefficient.ensures in
    let more = scaled_entries-more c.args.by.now c.args.entries.now c.loop-e.e-index (omega arith) in
    record {
      same = rw (c.in_ok-push_entry.ensures.ok, ← e.0, to_z-within c.args.limit _ (omega arith) e.1) (joined_up _ _ _ _ _ _ c.loop-e.invariant.same more);
      out_small = rw (c.in_ok-push_entry.ensures.ok, ← e.0, to_z-within c.args.limit _ (omega arith) e.1) (are_within-joint c.args.limit _ _ _ c.loop-e.invariant.out_small e.1);
    }

pub returns-in_err-coefficient : goal.returns-in_err-coefficient
returns-in_err-coefficient c =
    let p = err_from_is_err_and c.from_residual.result c.from_residual.ensures.1 in
    let more = scaled_entries-more c.args.by.now c.args.entries.now c.loop-e.e-index (omega arith) in
    rw (p.1, p.2) (Fails-whole c.in_err-coefficient.field-0.0 _ _ (λ none. entries_within-large c.args.limit _ _ _ _ _ _ (omega arith) c.loop-e.invariant.same more (number-none c.args.limit _ none)) c.in_err-coefficient.ensures)

pub returns : goal.returns
returns c = entries_within-is c.args.limit _ _ (scaled_entries-end c.args.by.now _ _ _ _ c.loop-e.invariant.same c.loop-e-test.false) c.loop-e.invariant.out_small
