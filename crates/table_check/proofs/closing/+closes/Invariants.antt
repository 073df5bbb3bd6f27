use Rattle.std.proofs.Common.{◌↔◌, ◌+◌, ◌*◌, length, map, drop}
use Rattle.st_certificate.specs.Tree.{trees}
use Rattle.farkas_check.specs.PlainProblem.{setting}
use Rattle.farkas_check.specs.Valid.{AreValid}
use Rattle.form_table.specs.Contents.{Grows, formulas_of}
use Rattle.shared_certificates.specs.Nodes.{tree}
use Rattle.shared_check.specs.Problems.{problem_of}
use Rattle.table_check.specs.Nodes.{trees_by}
use Rattle.table_check.proofs.closing.+closes.Given as goal

abbrev pub decreases-node_closes : goal.decreases-node_closes
decreases-node_closes l = 4 * length l.before.now + 3

abbrev pub decreases-close_all : goal.decreases-close_all
decreases-close_all l = 4 * length l.nodes.now + 2

abbrev pub decreases-close_each : goal.decreases-close_each
decreases-close_each l = 4 * length l.nodes.now + 1

abbrev pub decreases-closes : goal.decreases-closes
decreases-closes l = 4 * length l.nodes.now

abbrev pub invariant-close_each-loop-i : goal.invariant-close_each-loop-i
invariant-close_each-loop-i l = record {
  grows : Grows l.fn.table l.table;
  same : AreValid (setting l.components l.variables) (trees (map (tree (trees_by l.nodes)) (drop l.i l.parts))) (map (problem_of (formulas_of l.fn.table)) (drop l.i l.problems))
      ↔ AreValid (setting l.components l.variables) (trees (map (tree (trees_by l.nodes)) l.parts)) (map (problem_of (formulas_of l.fn.table)) l.problems);
}
