use Rattle.std.proofs.Common.{◌≡◌, drop, false}
use Rattle.st_linear.specs.Linear.{evaluated, is_wide}
use Rattle.st_linear.proofs.entries.evaluate.Given as goal

abbrev pub invariant-loop-e : goal.invariant-loop-e
invariant-loop-e l = record {
  narrow : is_wide l.sum ≡ false;
  same : evaluated l.values (drop l.e-index l.entries) l.sum ≡ evaluated l.values l.entries l.fn.constant;
}
