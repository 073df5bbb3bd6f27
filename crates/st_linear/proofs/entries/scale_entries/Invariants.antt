use Rattle.std.proofs.Common.{◌≡◌, ◌++◌, drop}
use Rattle.std.specs.Prelude.{IsTrue}
use Rattle.st_linear.specs.Linear.{scaled_entries}
use Rattle.st_linear.specs.Linear.{are_within}
use Rattle.st_linear.proofs.entries.scale_entries.Given as goal

abbrev pub invariant-loop-e : goal.invariant-loop-e
invariant-loop-e l = record {
  same : l.out.items ++ scaled_entries l.by (drop l.e-index l.entries) ≡ scaled_entries l.by l.entries;
  out_small : IsTrue (are_within l.limit l.out.items);
}
