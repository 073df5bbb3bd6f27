use Rattle.std.proofs.Common.{◌≡◌, ◌++◌, drop}
use Rattle.st_form.specs.Plain.{plain_list}
use Rattle.equation_laws.specs.Space.{equations_among, places_among}
use Rattle.linear_invariants.proofs.start.+parts.Given as goal

abbrev pub invariant-push_all_parts-loop-form : goal.invariant-push_all_parts-loop-form
invariant-push_all_parts-loop-form l = record {
  forms : l.out.forms.items ++ equations_among (plain_list (drop l.form-index l.fn.forms)) ≡ l.fn.out.forms.items ++ equations_among (plain_list l.fn.forms);
  places : l.out.places.items ++ places_among (plain_list (drop l.form-index l.fn.forms)) ≡ l.fn.out.places.items ++ places_among (plain_list l.fn.forms);
}
