use Rattle.std.proofs.Common.{◌≡◌, ◌+◌, ◌*◌, ◌≤◌, drop}
use Rattle.step_run.specs.Verified.{nodes_in}
use Rattle.step_run.specs.Deciding.{trees_in, AreValid, AreModest}
use Rattle.step_run.proofs.counting.nodes_of.Given as goal

abbrev pub invariant-loop-verdict : goal.invariant-loop-verdict
invariant-loop-verdict l = record {
  valid : AreValid (drop l.verdict-index l.verdicts);
  modest : AreModest (drop l.verdict-index l.verdicts);
  most : l.count ≤ 100000 * l.verdict-index;
  so_far : l.count + nodes_in (trees_in (drop l.verdict-index l.verdicts)) ≡ nodes_in (trees_in l.verdicts);
}
