use Rattle.std.proofs.Common.{drop}
use Rattle.st_form.specs.Plain.{plain_list}
use Rattle.farkas_check.specs.Limits.{AreNarrow}
use Rattle.invariant_search.proofs.narrow.+narrow.Given as goal

abbrev pub invariant-are_narrow-loop-form : goal.invariant-are_narrow-loop-form
invariant-are_narrow-loop-form l = AreNarrow (plain_list (drop l.form-index l.forms)) → AreNarrow (plain_list l.forms)
