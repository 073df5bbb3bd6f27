use Rattle.std.proofs.Common.{◌≡◌, ◌+◌, ◌-◌, ◌^◌, ◌≤◌, min, drop}
use Rattle.st_form.specs.Plain.{plain_list, plain_change}
use Rattle.st_form.specs.Exchange.{all_behind}
use Rattle.st_form.proofs.+behind.Given as goal

abbrev pub invariant-behind::sum_behind-loop-f : goal.invariant-behind::sum_behind-loop-f
invariant-behind::sum_behind-loop-f l = record {
  bound : l.sum ≤ 2 ^ 64 - 1;
  same : min (l.sum + all_behind (plain_change l.fn.change) (plain_list (drop l.f-index l.fs))) (2 ^ 64 - 1) ≡ min (all_behind (plain_change l.fn.change) (plain_list l.fs)) (2 ^ 64 - 1);
}
