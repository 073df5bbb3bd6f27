use Rattle.std.proofs.Common.{◌<◌, [], length, map, arith}
use Rattle.shared_certificates.specs.Nodes.{node_view, tree, trees_of}
use Rattle.certificate_unfolding.proofs.Spelling.{long-more}
use Rattle.certificate_unfolding.proofs.texts.blocks.Goals as goal

pub returns-then-len-gt-MOST_BYTES : goal.returns-then-len-gt-MOST_BYTES
returns-then-len-gt-MOST_BYTES c =
    long-more (tree (trees_of [] (map node_view c.args.nodes.now))) c.args.roots.now c.loop-i.i _ c.loop-i.out.items c.push_block.new.out.items _ 268435456 (omega arith) c.in_ok-push_block.ensures
    (omega (arith, c.if-len-gt-MOST_BYTES.true, c.len.ensures)) c.loop-i.invariant
