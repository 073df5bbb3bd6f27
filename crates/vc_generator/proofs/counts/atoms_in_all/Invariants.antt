use Rattle.std.proofs.Common.{◌≡◌, ◌+◌, ◌-◌, ◌^◌, ◌≤◌, map, min, drop}
use Rattle.st_form.specs.Plain.{plain}
use Rattle.vc_generator.specs.Atoms.{atoms_in}
use Rattle.vc_generator.proofs.counts.atoms_in_all.Given as goal

abbrev pub invariant-loop-form : goal.invariant-loop-form
invariant-loop-form l = record {
  bound : l.sum ≤ 2 ^ 64 - 1;
  same : min (l.sum + atoms_in (map plain (drop l.form-index l.forms))) (2 ^ 64 - 1) ≡ min (atoms_in (map plain l.forms)) (2 ^ 64 - 1);
}
