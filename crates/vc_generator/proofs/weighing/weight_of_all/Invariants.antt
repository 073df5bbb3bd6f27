use Rattle.std.proofs.Common.{◌≡◌, ◌+◌, ◌-◌, ◌^◌, ◌≤◌, min, drop}
use Rattle.st_form.specs.Formula.{weight_of}
use Rattle.st_form.specs.Plain.{plain_list}
use Rattle.vc_generator.proofs.weighing.weight_of_all.Given as goal

abbrev pub invariant-loop-form : goal.invariant-loop-form
invariant-loop-form l = record {
  bound : l.sum ≤ 2 ^ 64 - 1;
  same : min (l.sum + weight_of (plain_list (drop l.form-index l.forms))) (2 ^ 64 - 1) ≡ min (weight_of (plain_list l.forms)) (2 ^ 64 - 1);
}
