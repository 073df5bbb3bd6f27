use Rattle.std.proofs.Common.{◌≡◌, ℕ, Bool, ◌++◌, drop}
use Rattle.search_laws.specs.States.{values_of}
use Rattle.linear_prover.specs.Loops.{valued}
use Rattle.linear_prover.proofs.shown.values.Given as goal

abbrev pub invariant-loop-v : goal.invariant-loop-v
invariant-loop-v l = (located : ℕ → Bool) → l.store.items ++ values_of (drop l.v l.variables) l.v (valued l.truths l.point located) ≡ values_of l.variables 0 (valued l.truths l.point located)
