-- The types of transition systems as plain data.
use Rattle.std.specs.Prelude.{ℕ, Bool, List, map, refl}
use Rattle.std.specs.Coded.{Coded, code_by, coded×, coded_list, coded_ℕ, coded_bool}
use Rattle.st_form.specs.Plain.{plain, plain_change}
use Rattle.st_form.specs.declared.formulas.Form.{Form}
use Rattle.st_form.specs.contracts.formulas.Form as form_code
use Rattle.transition_system.specs.declared.transitions.Mode.{Mode}
use Rattle.transition_system.specs.declared.transitions.Transition.{Transition}
use Rattle.transition_system.specs.contracts.transitions.Transition as transition_code
use Rattle.transition_system.specs.Systems.{PlainMode, PlainTransition, System}

abbrev pub plain_mode : Mode → PlainMode
plain_mode m = record { at = m.at.items; guard = plain m.guard; change = plain_change m.change }

abbrev pub plain_transition : Transition → PlainTransition
plain_transition t = record { name = t.name; fairness = t.fairness; modes = map plain_mode t.modes.items }

-- what contracts see of a system
pub record View : Type 0 where
  pub locations : ℕ
  pub truths : List Bool
  pub initial : Form
  pub transitions : List Transition

abbrev pub view_code : Coded View
view_code =
    code_by (ℕ × (List Bool × (Form × List Transition)))
    (coded× coded_ℕ (coded× (coded_list coded_bool) (coded× form_code.the_row.coded (coded_list transition_code.the_row.coded))))
    (λ v. (v.locations, (v.truths, (v.initial, v.transitions))))
    (λ p. record { locations = p.0; truths = p.1.0; initial = p.1.1.0; transitions = p.1.1.1 })
    (λ _. refl)

abbrev pub plain_system : View → System
plain_system v = record {
  locations = v.locations;
  truths = v.truths;
  initial = plain v.initial;
  transitions = map plain_transition v.transitions;
}
