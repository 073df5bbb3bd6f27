use Rattle.std.proofs.Common.{◌≡◌, ◌+◌, ◌-◌, ◌^◌, ◌≤◌, min, drop}
use Rattle.st_form.specs.Formula.{atoms_of}
use Rattle.st_form.specs.Plain.{plain_list}
use Rattle.st_form.proofs.+atoms.Given as goal

abbrev pub invariant-counts::sum_of_atoms-loop-f : goal.invariant-counts::sum_of_atoms-loop-f
invariant-counts::sum_of_atoms-loop-f l = record {
  bound : l.sum ≤ 2 ^ 64 - 1;
  same : min (l.sum + atoms_of (plain_list (drop l.f-index l.fs))) (2 ^ 64 - 1) ≡ min (atoms_of (plain_list l.fs)) (2 ^ 64 - 1);
}
