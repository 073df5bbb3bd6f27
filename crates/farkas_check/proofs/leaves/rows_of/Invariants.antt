use Rattle.std.proofs.Common.{◌≡◌, ◌++◌, drop}
use Rattle.st_form.specs.Plain.{plain_list}
use Rattle.farkas_check.specs.Problem.{rows_of}
use Rattle.farkas_check.proofs.leaves.rows_of.Given as goal

abbrev pub invariant-loop-f : goal.invariant-loop-f
invariant-loop-f l = l.out.items ++ rows_of (plain_list (drop l.f-index l.fs)) ≡ rows_of (plain_list l.fs)
