use Rattle.std.proofs.Common.{◌++◌, codes, refl, sym, ap, ◌∙◌, arith}
use Rattle.std.proofs.lemmas.Result.{IfOk-weaker}
use Rattle.st_certificate.specs.Tree.{Tree, linear}
use Rattle.cert_text.specs.Spelling.{tree_text}
use Rattle.tree_table.specs.Table.{listed, tree}
use Rattle.tree_table.specs.Nodes.{trees_in}
use Rattle.tree_table.proofs.Reading.{kind-absurd, kind-linear}
use Rattle.tree_writing.proofs.Going.{branch-is, copied, ends, holds-in, holds-kept, parts-next}
use Rattle.tree_writing.proofs.blocks.+write.Goals as goal

pub push_branch-returns : goal.push_branch-returns
push_branch-returns t c =
    let ts = trees_in c.args.table.now in
    let us = listed ts c.args.parts.now in
    let g = rw c.if-not-branch.false at c.in_ok-push_parts.ensures in
    ends ts c.args.start _ c.push_text.new.out.items c.push_parts.new.places.kept.items c.is_short.result
    (branch-is c.args.step us c.args.text.now.items c.push_step.new.out.items c.push_parts.new.text.items c.push_text.new.out.items c.in_ok-push_step.ensures g.0 c.in_ok-push_text.ensures)
    (holds-in ts c.args.start c.push_parts.new.text.items (codes "}") c.push_text.new.out.items c.push_parts.new.places.kept.items c.in_ok-push_text.ensures g.2)
    (rw c.deref.ensures.value at c.is_short.ensures.yes)
    (rw c.deref.ensures.value at c.is_short.ensures.no)

pub push_node-returns-in_ok-push_text-in-Absurd : goal.push_node-returns-in_ok-push_text-in-Absurd
push_node-returns-in_ok-push_text-in-Absurd t c =
    let ts = trees_in c.args.table.now in
    let text = c.args.text.now.items in
    let kind = kind-absurd c.args.table.now c.args.number c.node.result c.node.ensures c.in-Absurd.is in
    ends ts c.args.start _ c.push_text.new.out.items c.args.places.now.kept.items c.is_short.result
    (c.in_ok-push_text-in-Absurd.ensures ∙ ap (λ (u : Tree). text ++ tree_text u) (sym kind))
    (holds-in ts c.args.start text (codes "absurd") c.push_text.new.out.items c.args.places.now.kept.items c.in_ok-push_text-in-Absurd.ensures c.requires.holds)
    (rw c.deref.ensures.value at c.is_short.ensures.yes)
    (rw c.deref.ensures.value at c.is_short.ensures.no)

pub push_node-returns-in_ok-push_leaf-in-Linear : goal.push_node-returns-in_ok-push_leaf-in-Linear
push_node-returns-in_ok-push_leaf-in-Linear t c =
    let ts = trees_in c.args.table.now in
    let text = c.args.text.now.items in
    let kind = kind-linear c.args.table.now c.args.number c.in-Linear.from c.in-Linear.count c.node.result c.node.ensures c.in-Linear.is in
    ends ts c.args.start _ c.push_leaf.new.out.items c.args.places.now.kept.items c.is_short-in-Linear.result
    (c.in_ok-push_leaf-in-Linear.ensures ∙ ap (λ (u : Tree). text ++ tree_text u) (ap linear c.picks.ensures ∙ sym kind))
    (holds-in ts c.args.start text (tree_text (linear c.picks.result.now)) c.push_leaf.new.out.items c.args.places.now.kept.items c.in_ok-push_leaf-in-Linear.ensures c.requires.holds)
    (rw c.deref-in-Linear.ensures.value at c.is_short-in-Linear.ensures.yes)
    (rw c.deref-in-Linear.ensures.value at c.is_short-in-Linear.ensures.no)

pub push_tree-push_copy-requires : goal.push_tree-push_copy-requires
push_tree-push_copy-requires t c = (c.requires.holds.each c.args.number c.in-Some.place c.in-Some.ensures.0).part

pub push_tree-returns-in-Some : goal.push_tree-returns-in-Some
push_tree-returns-in-Some t c =
    let ts = trees_in c.args.table.now in
    let there = c.requires.holds.each c.args.number c.in-Some.place c.in-Some.ensures.0 in
    IfOk-weaker c.push_copy.result _ _
    (λ fits w. copied ts c.args.start c.args.text.now.items _ (tree_text (tree ts c.args.number)) c.args.places.now.kept.items c.in-Some.place fits c.requires.holds (there.same c.in-Some.ensures.1) w)
    c.push_copy.ensures

pub push_tree-returns : goal.push_tree-returns
push_tree-returns t c =
    let ts = trees_in c.args.table.now in
    let g = rw c.if-not-branch.false at c.in_ok-push_node.ensures in (
      g.0,
      g.1,
      holds-kept ts c.args.start c.args.text.now.items c.push_node.new.text.items c.push_node.new.places.kept.items c.keep.new.kept.items c.args.number (record { from = c.len-from.result; to = c.len-to.result }) g.0
          (omega (arith, c.len-from.ensures)) (omega (arith, c.len-to.ensures)) g.2 c.keep.ensures,
    )

pub push_parts-loop-part-preserved : goal.push_parts-loop-part-preserved
push_parts-loop-part-preserved t c =
    let ts = trees_in c.args.table.now in
    let g = rw c.if-not-branch.false at c.in_ok-push_tree.ensures in
    record {
      so_far = parts-next ts c.args.parts.now c.loop-part.part-index _ 0 c.loop-part.text.items c.push_tree.new.text.items c.push_text.new.out.items (omega (arith, c.loop-part-test.true)) refl g.0 c.in_ok-push_text.ensures ∙ c.loop-part.invariant.so_far;
      holds = holds-in ts c.args.start c.push_tree.new.text.items (codes " ") c.push_text.new.out.items c.push_tree.new.places.kept.items c.in_ok-push_text.ensures g.2;
    }
