use Rattle.std.proofs.Common.{◌≡◌, ◌++◌, drop}
use Rattle.st_linear.specs.Linear.{scaled_entries, are_within}
use Rattle.lean_elimination.proofs.merging.push_multiples.Given as goal

abbrev pub invariant-loop-e : goal.invariant-loop-e
invariant-loop-e l = record {
  same : l.out.items ++ scaled_entries l.by (drop l.e-index l.entries) ≡ l.fn.out.items ++ scaled_entries l.by l.entries;
  within : are_within l.limit (scaled_entries l.by (drop l.e-index l.entries)) ≡ are_within l.limit (scaled_entries l.by l.entries);
}
