use Rattle.std.proofs.Common.{◌≡◌, ◌++◌, drop, map}
use Rattle.st_certificate.specs.Plain.{plain}
use Rattle.st_certificate.specs.Tree.{trees as trees_of}
use Rattle.cert_text.specs.Spelling.{trees_text}
use Rattle.cert_text.proofs.write.+write.Given as goal

abbrev pub invariant-push_trees-loop-tree : goal.invariant-push_trees-loop-tree
invariant-push_trees-loop-tree l = l.out.items ++ trees_text (trees_of (map plain (drop l.tree-index l.trees))) ≡ l.fn.out.items ++ trees_text (trees_of (map plain l.trees))
