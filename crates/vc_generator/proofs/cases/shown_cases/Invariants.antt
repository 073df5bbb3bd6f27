use Rattle.std.proofs.Common.{◌≡◌, map, take}
use Rattle.st_form.specs.Shared.{case_of as conjunction_of}
use Rattle.transition_system.specs.Plain.{plain_mode}
use Rattle.vc_generator.specs.Building.{case_of}
use Rattle.vc_generator.specs.Plain.{plain_case}
use Rattle.vc_generator.proofs.cases.shown_cases.Given as goal

abbrev pub invariant-loop-case : goal.invariant-loop-case
invariant-loop-case l = map conjunction_of l.shown.items ≡ map (case_of (plain_mode l.fn.mode)) (map plain_case (take l.case-index l.cases))
