use Rattle.std.proofs.Common.{◌≡◌, true, drop}
use Rattle.st_form.specs.Formula.{every_truth}
use Rattle.st_form.specs.Plain.{plain_list}
use Rattle.shown_states.specs.Pictures.{seen}
use Rattle.refuting_states.proofs.testing.are_true.Given as goal

abbrev pub invariant-loop-form : goal.invariant-loop-form
invariant-loop-form l = every_truth (seen l.picture) (plain_list (drop l.form-index l.forms)) ≡ true → every_truth (seen l.picture) (plain_list l.forms) ≡ true
