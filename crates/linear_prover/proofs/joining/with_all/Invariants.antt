use Rattle.std.proofs.Common.{◌≡◌, length}
use Rattle.st_form.specs.Plain.{plain_list}
use Rattle.st_form.specs.Simple.{append}
use Rattle.linear_prover.specs.Plain.{plain_each}
use Rattle.linear_prover.proofs.joining.with_all.Given as goal

abbrev pub invariant-loop-f : goal.invariant-loop-f
invariant-loop-f l = append (plain_each l.all.items) (plain_list l.rest.items) ≡ append (plain_each l.fn.out.items) (plain_list l.fn.fs.items)

abbrev pub decreases-loop-f : goal.decreases-loop-f
decreases-loop-f l = length l.rest.items
