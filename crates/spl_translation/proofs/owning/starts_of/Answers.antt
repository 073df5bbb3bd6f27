use Rattle.std.proofs.Common.{◌++◌, ◌+◌, drop, ap, ◌∙◌, arith}
use Rattle.st_program.specs.declared.trees.Child as GChild
use Rattle.st_program.specs.Plain.{plain_stmts, plain_children}
use Rattle.st_program.specs.Spots.{entry}
use Rattle.spl_semantics.specs.Control.{starts}
use Rattle.spl_translation.proofs.Walks.{start_more}
use Rattle.spl_translation.proofs.owning.starts_of.Goals as goal

pub loop-child-preserved : goal.loop-child-preserved
loop-child-preserved c =
    let x = c.child-item.result in
    ap (λ z. z ++ starts (plain_children (drop (c.loop-child.child-index + 1) c.args.children.now))) c.in_ok-push.ensures.items
    ∙ start_more c.loop-child.out.items _ c.args.children.now c.loop-child.child-index x c.location_from.result (c.location_from.ensures ∙ ap (λ z. entry (plain_stmts z) (GChild.out-Child x).end) c.deref.ensures.value) (omega arith) c.child-item.is c.loop-child.invariant
