use Rattle.std.proofs.Common.{◌≡◌, ◌++◌, map, drop}
use Rattle.farkas_leaf.specs.Lent.{lent_line}
use Rattle.farkas_check.specs.Problem.{lines_of}
use Rattle.linear_prover.specs.Plain.{plain_each}
use Rattle.linear_prover.proofs.conjuncts.lines_of.Given as goal

abbrev pub invariant-loop-f : goal.invariant-loop-f
invariant-loop-f l = map lent_line l.out.items ++ lines_of (plain_each (drop l.f-index l.fs)) ≡ lines_of (plain_each l.fs)
