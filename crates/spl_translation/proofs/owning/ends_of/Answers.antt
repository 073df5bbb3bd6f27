use Rattle.std.proofs.Common.{◌++◌, ◌+◌, drop, ap, ◌∙◌, arith}
use Rattle.st_program.specs.Plain.{plain_children}
use Rattle.spl_semantics.specs.Control.{ends}
use Rattle.spl_translation.proofs.Walks.{end_more}
use Rattle.spl_translation.proofs.owning.ends_of.Goals as goal

pub loop-child-preserved : goal.loop-child-preserved
loop-child-preserved c =
    ap (λ z. z ++ ends (plain_children (drop (c.loop-child.child-index + 1) c.args.children.now))) c.in_ok-push.ensures.items
    ∙ end_more c.loop-child.out.items _ c.args.children.now c.loop-child.child-index c.child-item.result (omega arith) c.child-item.is c.loop-child.invariant
