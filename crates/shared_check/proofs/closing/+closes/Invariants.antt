use Rattle.std.proofs.Common.{◌↔◌, map, drop}
use Rattle.st_certificate.specs.Plain.{plain_trees}
use Rattle.farkas_check.specs.PlainProblem.{setting}
use Rattle.farkas_check.specs.Limits.{AreLimited}
use Rattle.farkas_check.specs.Valid.{AreValid}
use Rattle.form_table.specs.Contents.{Grows, formulas_of}
use Rattle.shared_check.specs.Problems.{problem_of}
use Rattle.shared_check.proofs.closing.+closes.Given as goal

abbrev pub invariant-close_each-loop-i : goal.invariant-close_each-loop-i
invariant-close_each-loop-i l = record {
  grows : Grows l.fn.table l.table;
  limited : AreLimited (plain_trees (drop l.i l.certificates));
  same : AreValid (setting l.components l.variables) (plain_trees (drop l.i l.certificates)) (map (problem_of (formulas_of l.fn.table)) (drop l.i l.problems))
      ↔ AreValid (setting l.components l.variables) (plain_trees l.certificates) (map (problem_of (formulas_of l.fn.table)) l.problems);
}
