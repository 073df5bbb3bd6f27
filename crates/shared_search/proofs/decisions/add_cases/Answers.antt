use Rattle.std.proofs.Common.{arith}
use Rattle.sharing_laws.specs.Lists.{by_case_alone}
use Rattle.shared_search.proofs.Deciding.{cases-step, longer-trans}
use Rattle.shared_search.proofs.decisions.add_cases.Goals as goal

pub loop-choice-preserved : goal.loop-choice-preserved
loop-choice-preserved c = record {
  longer = longer-trans _ _ _ c.loop-choice.invariant.longer c.in_ok-number.ensures.longer;
  made =
      rw c.in_ok-push.ensures.items (cases-step (by_case_alone c.args.components.now c.args.component) c.loop-choice.table.decisions c.add_case.new.table.decisions c.loop-choice.out.items c.alternatives-choices.result.now c.loop-choice.choice-index c.in_ok-number.number _ (omega arith) c.in_ok-number.ensures.longer c.loop-choice.invariant.made c.in_ok-number.ensures.made);
}
