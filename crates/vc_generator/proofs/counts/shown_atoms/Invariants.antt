use Rattle.std.proofs.Common.{◌≡◌, ◌+◌, ◌-◌, ◌^◌, ◌≤◌, map, min, drop}
use Rattle.transition_system.specs.Plain.{plain_mode}
use Rattle.vc_generator.specs.Plain.{plain_case}
use Rattle.vc_generator.specs.Atoms.{cases_atoms}
use Rattle.vc_generator.proofs.counts.shown_atoms.Given as goal

abbrev pub invariant-loop-case : goal.invariant-loop-case
invariant-loop-case l = record {
  bound : l.sum ≤ 2 ^ 64 - 1;
  same : min (l.sum + cases_atoms (plain_mode l.fn.mode) (map plain_case (drop l.case-index l.cases))) (2 ^ 64 - 1) ≡ min (cases_atoms (plain_mode l.fn.mode) (map plain_case l.cases)) (2 ^ 64 - 1);
}
