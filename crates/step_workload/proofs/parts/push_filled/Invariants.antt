use Rattle.std.proofs.Common.{◌≡◌, ◌++◌, drop}
use Rattle.step_workload.specs.Parts.{filled}
use Rattle.step_workload.proofs.parts.push_filled.Given as goal

abbrev pub invariant-loop-byte : goal.invariant-loop-byte
invariant-loop-byte l = l.out.items ++ filled l.number (drop l.byte-index l.part) ≡ l.initial.out.items ++ filled l.number l.part
