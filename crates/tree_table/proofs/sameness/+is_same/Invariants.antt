use Rattle.std.proofs.Common.{◌≡◌, length, map, take}
use Rattle.st_certificate.specs.Plain.{plain}
use Rattle.tree_table.specs.Table.{tree}
use Rattle.tree_table.specs.Nodes.{trees_in}
use Rattle.tree_table.proofs.sameness.+is_same.Given as goal

abbrev pub invariant-are_same-loop-place : goal.invariant-are_same-loop-place
invariant-are_same-loop-place l = record {
  lengths : length l.certificates ≡ length l.parts;
  same : map (tree (trees_in l.table)) (take l.place l.parts) ≡ map plain (take l.place l.certificates);
}
