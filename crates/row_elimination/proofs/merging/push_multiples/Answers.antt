use Rattle.std.proofs.Common.{arith}
use Rattle.std.proofs.lemmas.Result.{err_from_is_err_and}
use Rattle.st_linear.proofs.Answering.{Fails-whole}
use Rattle.st_linear.proofs.Joins.{joined_up}
use Rattle.row_elimination.proofs.Merges.{multiples-more, appended-some, appended-none}
use Rattle.row_elimination.proofs.Ends.{multiples-within, pushed-large, pushed-all}
use Rattle.row_elimination.proofs.merging.push_multiples.Goals as goal

pub loop-e-preserved : goal.loop-e-preserved
loop-e-preserved c =
    let p = appended-some c.args.limit _ _ _ _ c.in_ok-push_multiple.ensures in
    let more = multiples-more c.args.by.now c.args.entries.now c.loop-e.e-index (omega arith) in
    record {
      same = rw (← p.0) (joined_up _ _ _ _ _ _ c.loop-e.invariant.same more);
      within = multiples-within c.args.limit c.args.by.now c.args.entries.now c.loop-e.e-index _ c.loop-e.invariant.within (omega arith) p.1;
    }

pub returns-in_err-push_multiple : goal.returns-in_err-push_multiple
returns-in_err-push_multiple c =
    let p = err_from_is_err_and c.from_residual.result c.from_residual.ensures.1 in
    rw (p.1, p.2) (Fails-whole c.in_err-push_multiple.field-0.0 _ _ (λ none. pushed-large c.args.limit _ c.args.by.now c.args.entries.now c.loop-e.e-index c.loop-e.invariant.within (omega arith) (omega arith) (appended-none c.args.limit _ _ _ none)) c.in_err-push_multiple.ensures)

pub returns : goal.returns
returns c = pushed-all c.args.limit _ _ c.args.by.now c.args.entries.now c.loop-e.e-index c.loop-e.invariant.same c.loop-e.invariant.within (omega arith)
