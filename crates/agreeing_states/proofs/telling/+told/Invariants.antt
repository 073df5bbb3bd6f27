use Rattle.std.proofs.Common.{◌≡◌, drop}
use Rattle.st_form.specs.Plain.{plain_list}
use Rattle.agreeing_states.specs.Kleene.{both, either, every_told, some_told}
use Rattle.agreeing_states.proofs.telling.+told.Given as goal

abbrev pub invariant-all_told-loop-form : goal.invariant-all_told-loop-form
invariant-all_told-loop-form l =
    both l.all (every_told l.known l.store l.fronts (plain_list (drop l.form-index l.forms))) ≡ every_told l.known l.store l.fronts (plain_list l.forms)

abbrev pub invariant-any_told-loop-form : goal.invariant-any_told-loop-form
invariant-any_told-loop-form l =
    either l.any (some_told l.known l.store l.fronts (plain_list (drop l.form-index l.forms))) ≡ some_told l.known l.store l.fronts (plain_list l.forms)
