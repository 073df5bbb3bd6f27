use Rattle.std.proofs.Common.{subst, sym}
use Rattle.tree_table.specs.Nodes.{trees_in}
use Rattle.table_check.specs.Nodes.{trees_by}
use Rattle.table_check.specs.Same.{AreSame}
use Rattle.table_check.proofs.Numbered.{same-node}
use Rattle.table_check.proofs.sameness.+is_same.Goals as goal

pub is_same-returns-then-is_known-clause-same : goal.is_same-returns-then-is_known-clause-same
is_same-returns-then-is_known-clause-same t c = λ e.
    c.is_known.ensures (trees_in c.args.made.now) (trees_by c.args.nodes.now)
    (subst (AreSame c.args.turn (trees_in c.args.made.now) (trees_by c.args.nodes.now)) (sym c.deref.ensures.value) c.requires.known) c.if-is_known.true

pub is_same-returns-clause-known : goal.is_same-returns-clause-known
is_same-returns-clause-known t c =
    let us = trees_in c.args.made.now in
    let ts = trees_by c.args.nodes.now in
    c.in_ok-keep.ensures us ts c.in_ok-is_node.ensures.known
    (same-node us c.args.nodes.now c.args.found c.args.given c.in-Some.node.now c.requires.nodes c.in-Some.ensures.lookup.0 c.in-Some.ensures.lookup.1 (c.in_ok-is_node.ensures.same c.if-not-branch.false))

pub is_same-returns-clause-same : goal.is_same-returns-clause-same
is_same-returns-clause-same t c = λ e.
    same-node (trees_in c.args.made.now) c.args.nodes.now c.args.found c.args.given c.in-Some.node.now c.requires.nodes c.in-Some.ensures.lookup.0 c.in-Some.ensures.lookup.1
    (c.in_ok-is_node.ensures.same c.if-not-branch.false)
