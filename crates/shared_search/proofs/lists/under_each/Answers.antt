use Rattle.std.proofs.Common.{◌<◌, length, arith}
use Rattle.form_table.proofs.Calling.{grows-trans}
use Rattle.shared_search.proofs.Listing.{under-step}
use Rattle.shared_search.proofs.lists.under_each.Goals as goal

pub loop-decision-preserved : goal.loop-decision-preserved
loop-decision-preserved c =
    let at : c.loop-decision.decision-index < length c.args.decisions.now = omega arith in
    record {
      grows = grows-trans _ _ _ c.loop-decision.invariant.grows c.in_ok-next.ensures.grows;
      listed = λ cs l.
          rw c.in_ok-push.ensures.items (under-step c.args.table.now c.loop-decision.table c.under.new.self cs c.args.key.context c.args.key.list c.loop-decision.decision-index c.args.decisions.now c.loop-decision.out.items c.in_ok-next.next
          c.loop-decision.invariant.grows c.in_ok-next.ensures.grows c.requires.list l at (c.loop-decision.invariant.listed cs l) c.in_ok-next.ensures.made);
    }
