use Rattle.std.proofs.Common.{◌≡◌, ◌++◌, drop}
use Rattle.st_program.specs.Plain.{plain_stmts, plain_children}
use Rattle.spl_translation.specs.Making.{plain_all}
use Rattle.spl_translation.specs.Walk.{walk_along, walk_among, walk_inside}
use Rattle.spl_translation.proofs.translating.+walk.Given as goal

abbrev pub invariant-translate_along-loop-i : goal.invariant-translate_along-loop-i
invariant-translate_along-loop-i l =
    plain_all l.out.items ++ walk_along (plain_stmts (drop l.i l.items)) l.next ≡ plain_all l.fn.out.items ++ walk_along (plain_stmts l.items) l.next

abbrev pub invariant-translate_among-loop-item : goal.invariant-translate_among-loop-item
invariant-translate_among-loop-item l =
    plain_all l.out.items ++ walk_among (plain_stmts (drop l.item-index l.fn.items)) l.next ≡ plain_all l.fn.out.items ++ walk_among (plain_stmts l.fn.items) l.next

abbrev pub invariant-translate_children-loop-child : goal.invariant-translate_children-loop-child
invariant-translate_children-loop-child l =
    plain_all l.out.items ++ walk_inside (plain_children (drop l.child-index l.fn.children)) ≡ plain_all l.fn.out.items ++ walk_inside (plain_children l.fn.children)
