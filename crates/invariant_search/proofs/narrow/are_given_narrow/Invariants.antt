use Rattle.std.proofs.Common.{drop}
use Rattle.st_form.specs.Plain.{plain_list}
use Rattle.farkas_check.specs.Limits.{AreNarrow}
use Rattle.invariant_search.proofs.narrow.are_given_narrow.Given as goal

abbrev pub invariant-loop-form : goal.invariant-loop-form
invariant-loop-form l = AreNarrow (plain_list (drop l.form-index l.forms)) → AreNarrow (plain_list l.forms)
