use Rattle.std.proofs.Common.{ℕ, drop}
use Prim.Native.Nat.{◌∣◌}
use Rattle.st_linear.specs.Simple.{CommonTo}
use Rattle.st_linear.proofs.entries.divisor_of.Given as goal

abbrev pub invariant-loop-e : goal.invariant-loop-e
invariant-loop-e l = record {
  up : (d : ℕ) → d ∣ l.divisor → CommonTo d (drop l.e-index l.entries) → CommonTo d l.entries;
  down : (d : ℕ) → CommonTo d l.entries → d ∣ l.divisor;
}
