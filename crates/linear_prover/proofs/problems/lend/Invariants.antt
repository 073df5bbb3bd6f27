use Rattle.std.proofs.Common.{◌≡◌, drop}
use Rattle.st_form.specs.Simple.{append}
use Rattle.linear_prover.specs.Plain.{plain_each}
use Rattle.linear_prover.proofs.problems.lend.Given as goal

abbrev pub invariant-loop-f : goal.invariant-loop-f
invariant-loop-f l = append (plain_each l.all.items) (plain_each (drop l.f-index l.fs)) ≡ append (plain_each l.fn.out.items) (plain_each l.fs)
