use Rattle.st_form.specs.Plain.{plain_change}
use Rattle.shown_states.specs.Places.{place_behind}
use Rattle.shown_states.proofs.Rising.{ListsTo}
use Rattle.shown_states.proofs.controls.control_behind.Given as goal

abbrev pub invariant-loop-component : goal.invariant-loop-component
invariant-loop-component l = ListsTo (place_behind l.owners l.control (plain_change l.change) l.name) l.component l.out.items
