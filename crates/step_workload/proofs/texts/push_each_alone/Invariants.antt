use Rattle.std.proofs.Common.{◌≡◌, ◌++◌, ◌+◌, ◌-◌}
use Rattle.step_workload.specs.Parts.{each_from}
use Rattle.step_workload.specs.Texts.{alone_inside}
use Rattle.step_workload.proofs.texts.push_each_alone.Given as goal

abbrev pub invariant-loop-i : goal.invariant-loop-i
invariant-loop-i l = l.out.items ++ each_from (alone_inside l.n) l.i (l.n + 1 - l.i) ≡ l.initial.out.items ++ each_from (alone_inside l.n) 1 l.n
