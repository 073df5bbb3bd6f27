use Rattle.std.proofs.Common.{◌≡◌, drop}
use Rattle.search_laws.specs.Moves.{first_place_of}
use Rattle.linear_prover.specs.Plain.{plain_each}
use Rattle.linear_prover.proofs.conjuncts.first_place_among.Given as goal

abbrev pub invariant-loop-f : goal.invariant-loop-f
invariant-loop-f l = first_place_of (plain_each (drop l.f-index l.fs)) ≡ first_place_of (plain_each l.fs)
