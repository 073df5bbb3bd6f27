use Rattle.std.proofs.Common.{◌≡◌, ◌++◌, drop}
use Rattle.st_form.specs.Plain.{plain_list}
use Rattle.constant_facts.specs.Rules.{places_among}
use Rattle.constant_facts.proofs.starting.+places.Given as goal

abbrev pub invariant-push_all_places-loop-form : goal.invariant-push_all_places-loop-form
invariant-push_all_places-loop-form l = l.out.items ++ places_among (plain_list (drop l.form-index l.fn.forms)) ≡ l.fn.out.items ++ places_among (plain_list l.fn.forms)
