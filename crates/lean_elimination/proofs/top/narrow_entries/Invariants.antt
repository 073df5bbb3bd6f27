use Rattle.std.proofs.Common.{◌≡◌, ◌^◌, take}
use Rattle.std.specs.Prelude.{IsTrue}
use Rattle.st_linear.specs.Linear.{are_within}
use Rattle.lean_elimination.proofs.top.narrow_entries.Given as goal

abbrev pub invariant-loop-e : goal.invariant-loop-e
invariant-loop-e l = record {
  same : l.out.items ≡ take l.e-index l.entries;
  within : IsTrue (are_within (2 ^ 62) l.out.items);
}
