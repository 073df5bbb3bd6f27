use Rattle.std.proofs.Common.{◌≡◌, map, take}
use Rattle.st_form.specs.Plain.{plain}
use Rattle.st_form.specs.Shared.{case_of}
use Rattle.st_form.proofs.conditions.all_cases.Given as goal

abbrev pub invariant-loop-case : goal.invariant-loop-case
invariant-loop-case l = map plain l.out.items ≡ map case_of (take l.case-index l.cases)
