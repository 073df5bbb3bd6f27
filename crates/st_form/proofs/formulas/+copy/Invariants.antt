use Rattle.std.proofs.Common.{◌≡◌, map, take}
use Rattle.st_form.specs.Plain.{plain}
use Rattle.st_form.proofs.formulas.+copy.Given as goal

abbrev pub invariant-copy_all-loop-f : goal.invariant-copy_all-loop-f
invariant-copy_all-loop-f l = map plain l.out.items ≡ map plain (take l.f-index l.fs)
