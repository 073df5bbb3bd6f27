use Rattle.std.proofs.Common.{◌↔◌, ◌+◌, map, take, drop}
use Rattle.st_certificate.specs.Plain.{plain_trees}
use Rattle.farkas_check.specs.PlainProblem.{plain_posed, setting}
use Rattle.farkas_check.specs.Limits.{AreLimited, AllFit, AreSettled}
use Rattle.farkas_check.specs.Valid.{AreValid}
use Rattle.st_form.specs.Plain.{plain_list}
use Rattle.farkas_check.specs.Problem.{case_problems, split_problems, in_place}
use Rattle.farkas_check.proofs.closing.+closes.Given as goal

abbrev pub invariant-close_each-loop-i : goal.invariant-close_each-loop-i
invariant-close_each-loop-i l = record {
  limited : AreLimited (plain_trees (drop l.i l.certificates));
  fit : AllFit (map plain_posed (drop l.i l.problems));
  same : AreValid (setting l.components l.variables) (plain_trees (drop l.i l.certificates)) (map plain_posed (drop l.i l.problems))
      ↔ AreValid (setting l.components l.variables) (plain_trees l.certificates) (map plain_posed l.problems);
}

abbrev pub invariant-close_each_case-loop-i : goal.invariant-close_each_case-loop-i
invariant-close_each_case-loop-i l = record {
  limited : AreLimited (plain_trees (drop l.i l.certificates));
  same : AreValid (setting l.components l.variables) (plain_trees (drop l.i l.certificates)) (case_problems l.components (plain_posed l.problem) (plain_list l.fs) l.component (drop l.i l.alternatives))
      ↔ AreValid (setting l.components l.variables) (plain_trees l.certificates) (case_problems l.components (plain_posed l.problem) (plain_list l.fs) l.component l.alternatives);
}

abbrev pub invariant-close_each_disjunct-loop-i : goal.invariant-close_each_disjunct-loop-i
invariant-close_each_disjunct-loop-i l = record {
  limited : AreLimited (plain_trees (drop l.i l.certificates));
  parts : AreSettled (plain_list (drop l.i l.disjuncts));
  same : AreValid (setting l.components l.variables) (plain_trees (drop l.i l.certificates)) (split_problems (plain_posed l.problem) (in_place (plain_list (take l.place l.fs)) (plain_list (drop l.i l.disjuncts)) (plain_list (drop (l.place + 1) l.fs))))
      ↔ AreValid (setting l.components l.variables) (plain_trees l.certificates) (split_problems (plain_posed l.problem) (in_place (plain_list (take l.place l.fs)) (plain_list l.disjuncts) (plain_list (drop (l.place + 1) l.fs))));
}
