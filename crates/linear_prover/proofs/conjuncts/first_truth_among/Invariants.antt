use Rattle.std.proofs.Common.{◌≡◌, drop}
use Rattle.search_laws.specs.Moves.{first_truth_of}
use Rattle.linear_prover.specs.Plain.{plain_each}
use Rattle.linear_prover.proofs.conjuncts.first_truth_among.Given as goal

abbrev pub invariant-loop-f : goal.invariant-loop-f
invariant-loop-f l = first_truth_of (plain_each (drop l.f-index l.fs)) ≡ first_truth_of (plain_each l.fs)
