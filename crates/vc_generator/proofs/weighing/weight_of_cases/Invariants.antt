use Rattle.std.proofs.Common.{◌≡◌, ◌+◌, ◌-◌, ◌^◌, ◌≤◌, map, min, drop}
use Rattle.st_form.specs.Formula.{formulas, weight_of}
use Rattle.st_form.specs.Shared.{case_of}
use Rattle.vc_generator.proofs.weighing.weight_of_cases.Given as goal

abbrev pub invariant-loop-case : goal.invariant-loop-case
invariant-loop-case l = record {
  bound : l.sum ≤ 2 ^ 64 - 1;
  same : min (l.sum + weight_of (formulas (map case_of (drop l.case-index l.cases)))) (2 ^ 64 - 1) ≡ min (weight_of (formulas (map case_of l.cases))) (2 ^ 64 - 1);
}
