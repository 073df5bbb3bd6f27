use Rattle.std.proofs.Common.{codes}
use Rattle.tree_table.specs.Nodes.{trees_in}
use Rattle.tree_writing.proofs.Going.{holds-in, within-longer}
use Rattle.tree_writing.proofs.blocks.write_block.Goals as goal

pub returns-clause-within : goal.returns-clause-within
returns-clause-within c fits =
    let ts = trees_in c.args.table.now in
    let g = rw c.if-not-branch.false at c.in_ok-push_tree.ensures in
    within-longer ts c.len-start.result c.push_text-3.new.out.items c.push_tree.new.places.kept.items
    (holds-in ts c.len-start.result c.push_tree.new.text.items (codes ";\n") c.push_text-3.new.out.items c.push_tree.new.places.kept.items c.in_ok-push_text-3.ensures g.2)
