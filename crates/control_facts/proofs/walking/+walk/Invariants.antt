use Rattle.std.proofs.Common.{◌≡◌, drop}
use Rattle.st_program.specs.Plain.{plain_stmts, plain_children}
use Rattle.control_facts.specs.Walk.{walk_along, walk_among, walk_inside, facts_of}
use Rattle.control_facts.proofs.walking.+walk.Given as goal

abbrev pub invariant-walk_along-loop-item : goal.invariant-walk_along-loop-item
invariant-walk_along-loop-item l =
    walk_along l.own (plain_stmts (drop l.item-index l.fn.items)) l.component (facts_of l.parts.items l.owners.items)
    ≡ walk_along l.fresh (plain_stmts l.fn.items) l.component (facts_of l.fn.parts.items l.fn.owners.items)

abbrev pub invariant-walk_among-loop-item : goal.invariant-walk_among-loop-item
invariant-walk_among-loop-item l =
    walk_among (plain_stmts (drop l.item-index l.fn.items)) l.component (facts_of l.parts.items l.owners.items)
    ≡ walk_among (plain_stmts l.fn.items) l.component (facts_of l.fn.parts.items l.fn.owners.items)

abbrev pub invariant-walk_children-loop-child : goal.invariant-walk_children-loop-child
invariant-walk_children-loop-child l =
    walk_inside (plain_children (drop l.child-index l.fn.children)) l.around (facts_of l.parts.items l.owners.items)
    ≡ walk_inside (plain_children l.fn.children) l.around (facts_of l.fn.parts.items l.fn.owners.items)
