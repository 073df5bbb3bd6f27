use Rattle.std.proofs.Common.{◌≡◌, ◌++◌, drop}
use Rattle.search_laws.specs.States.{listed}
use Rattle.linear_prover.proofs.shown.listed.Given as goal

abbrev pub invariant-loop-c : goal.invariant-loop-c
invariant-loop-c l = l.out.items ++ listed l.c (drop l.c l.stood) ≡ listed 0 l.stood
