use Rattle.std.proofs.Common.{◌≡◌, ◌++◌, ◌+◌, ◌-◌}
use Rattle.step_workload.specs.Parts.{filled_unless, each_from}
use Rattle.step_workload.proofs.parts.push_others.Given as goal

abbrev pub invariant-loop-number : goal.invariant-loop-number
invariant-loop-number l = l.out.items ++ each_from (filled_unless l.without l.part) l.number (l.last + 1 - l.number) ≡ l.initial.out.items ++ each_from (filled_unless l.without l.part) 1 l.last
