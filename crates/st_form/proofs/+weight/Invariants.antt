use Rattle.std.proofs.Common.{◌≡◌, ◌+◌, ◌-◌, ◌^◌, ◌≤◌, min, drop}
use Rattle.st_form.specs.Formula.{weight_of}
use Rattle.st_form.specs.Plain.{plain_list}
use Rattle.st_form.proofs.+weight.Given as goal

abbrev pub invariant-counts::sum_of_weights-loop-f : goal.invariant-counts::sum_of_weights-loop-f
invariant-counts::sum_of_weights-loop-f l = record {
  bound : l.sum ≤ 2 ^ 64 - 1;
  same : min (l.sum + weight_of (plain_list (drop l.f-index l.fs))) (2 ^ 64 - 1) ≡ min (weight_of (plain_list l.fs)) (2 ^ 64 - 1);
}
