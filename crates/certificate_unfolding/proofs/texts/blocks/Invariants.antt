use Rattle.std.proofs.Common.{◌≡◌, ◌+◌, ◌++◌, [], map, drop}
use Rattle.shared_certificates.specs.Nodes.{node_view, tree, trees_of}
use Rattle.certificate_unfolding.specs.Texts.{blocks_text, version_2_text}
use Rattle.certificate_unfolding.proofs.texts.blocks.Given as goal

abbrev pub invariant-loop-i : goal.invariant-loop-i
invariant-loop-i l =
    l.out.items ++ blocks_text (l.i + 1) (map (tree (trees_of [] (map node_view l.nodes))) (drop l.i l.roots))
    ≡ version_2_text (map (tree (trees_of [] (map node_view l.nodes))) l.roots)
