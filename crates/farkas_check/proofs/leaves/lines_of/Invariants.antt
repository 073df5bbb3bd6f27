use Rattle.std.proofs.Common.{◌≡◌, ◌++◌, drop}
use Rattle.st_form.specs.Plain.{plain_list}
use Rattle.farkas_check.specs.Problem.{lines_of}
use Rattle.farkas_check.proofs.leaves.lines_of.Given as goal

abbrev pub invariant-loop-f : goal.invariant-loop-f
invariant-loop-f l = l.out.items ++ lines_of (plain_list (drop l.f-index l.fs)) ≡ lines_of (plain_list l.fs)
