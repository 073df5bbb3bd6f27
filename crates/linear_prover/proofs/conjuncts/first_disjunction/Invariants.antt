use Rattle.std.proofs.Common.{◌≡◌, take, drop}
use Rattle.st_form.specs.Formula.{none}
use Rattle.farkas_check.specs.Problem.{split_from}
use Rattle.linear_prover.specs.Plain.{plain_each}
use Rattle.linear_prover.proofs.conjuncts.first_disjunction.Given as goal

abbrev pub invariant-loop-place : goal.invariant-loop-place
invariant-loop-place l = split_from (plain_each (take l.place l.fs)) 0 (plain_each (drop l.place l.fs)) ≡ split_from none 0 (plain_each l.fs)
