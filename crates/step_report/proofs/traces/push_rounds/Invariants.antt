use Rattle.std.proofs.Common.{◌≡◌, ◌++◌, drop}
use Rattle.step_report.specs.Traces.{round_lines}
use Rattle.step_report.proofs.traces.push_rounds.Given as goal

abbrev pub invariant-loop-count : goal.invariant-loop-count
invariant-loop-count l = record {
  place : l.position ≡ l.count-index;
  text : l.out.items ++ round_lines l.position (drop l.count-index l.counts) ≡ l.fn.out.items ++ round_lines 0 l.counts;
}
