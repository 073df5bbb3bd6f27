use Rattle.std.proofs.Common.{◌++◌, ap, ◌∙◌, arith}
use Rattle.st_program.specs.declared.trees.Child as GChild
use Rattle.st_program.specs.Plain.{plain_stmts}
use Rattle.spl_translation.specs.Making.{plain_all}
use Rattle.spl_translation.specs.Walk.{walk_along}
use Rattle.spl_translation.proofs.Walks.{inside_more}
use Rattle.spl_translation.proofs.translating.+walk.Goals as goal

pub translate_children-loop-child-preserved : goal.translate_children-loop-child-preserved
translate_children-loop-child-preserved t c =
    inside_more (plain_all c.loop-child.out.items) _ _ c.args.children.now c.loop-child.child-index c.child-item.result (omega arith) c.child-item.is
    (c.in_ok-translate_along.ensures ∙ ap (λ z. plain_all c.loop-child.out.items ++ walk_along (plain_stmts z) (GChild.out-Child c.child-item.result).end) c.deref.ensures.value) c.loop-child.invariant
