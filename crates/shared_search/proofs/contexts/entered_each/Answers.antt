use Rattle.std.proofs.Common.{arith}
use Rattle.shared_search.proofs.Entering.{entered-step, keeps-trans}
use Rattle.shared_search.proofs.contexts.entered_each.Goals as goal

pub loop-choice-preserved : goal.loop-choice-preserved
loop-choice-preserved c = record {
  keeps = keeps-trans _ _ _ c.loop-choice.invariant.keeps c.in_ok-entered.ensures.keeps;
  made =
      rw c.in_ok-push-in-Some.ensures.items (entered-step c.args.contexts.now.kept.items c.loop-choice.contexts.kept.items c.entered.new.contexts.kept.items c.args.context c.args.component c.loop-choice.choice-index c.in-Some.number c.loop-choice.out.items c.args.choices.now _ c.requires
      (omega arith) c.loop-choice.invariant.keeps c.in_ok-entered.ensures.keeps c.loop-choice.invariant.made (rw c.in-Some.is at c.in_ok-entered.ensures.made));
}
