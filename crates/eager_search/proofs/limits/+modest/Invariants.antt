use Rattle.std.proofs.Common.{drop}
use Rattle.st_form.specs.Plain.{plain_list}
use Rattle.st_form.specs.Simple.{AreModest}
use Rattle.eager_search.proofs.limits.+modest.Given as goal

abbrev pub invariant-are_modest-loop-form : goal.invariant-are_modest-loop-form
invariant-are_modest-loop-form l = AreModest (plain_list (drop l.form-index l.forms)) → AreModest (plain_list l.forms)
