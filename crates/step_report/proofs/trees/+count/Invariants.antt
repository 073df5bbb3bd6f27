use Rattle.std.proofs.Common.{◌≡◌, ◌+◌, drop, map}
use Rattle.search_laws.specs.Sizes.{nodes_of}
use Rattle.st_certificate.specs.Plain.{plain}
use Rattle.st_certificate.specs.Tree.{trees}
use Rattle.step_report.proofs.trees.+count.Given as goal

abbrev pub invariant-count_all-loop-part : goal.invariant-count_all-loop-part
invariant-count_all-loop-part l = l.count + nodes_of (trees (map plain (drop l.part-index l.parts))) ≡ nodes_of (trees (map plain l.parts))
