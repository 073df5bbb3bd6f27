use Rattle.std.proofs.Common.{◌≡◌, false, drop, map}
use Rattle.st_form.specs.Formula.{formulas, some_truth}
use Rattle.st_form.specs.Shared.{case_of}
use Rattle.shown_states.specs.Pictures.{seen}
use Rattle.refuting_states.proofs.testing.are_false_cases.Given as goal

abbrev pub invariant-loop-case : goal.invariant-loop-case
invariant-loop-case l = some_truth (seen l.picture) (formulas (map case_of (drop l.case-index l.cases))) ≡ false → some_truth (seen l.picture) (formulas (map case_of l.cases)) ≡ false
