use Rattle.std.proofs.Common.{◌≡◌, ◌-◌, drop, map, length}
use Rattle.st_certificate.specs.Plain.{plain}
use Rattle.st_certificate.specs.Tree.{trees as trees_of}
use Rattle.cert_text.specs.Spelling.{trees_text}
use Rattle.cert_lengths.proofs.lengths.+lengths.Given as goal

abbrev pub invariant-behind_trees-loop-tree : goal.invariant-behind_trees-loop-tree
invariant-behind_trees-loop-tree l = l.room - length (trees_text (trees_of (map plain (drop l.tree-index l.trees)))) ≡ l.fn.room - length (trees_text (trees_of (map plain l.trees)))
