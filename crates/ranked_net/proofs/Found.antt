-- What is found of a transition by its number.
use Rattle.std.proofs.Common.{◌≡◌, ◌∙◌, ap, sym, ℕ, List, map, slice_get, Some, None}
use Rattle.std.specs.Option.{option_map}
use Rattle.std.proofs.lemmas.Option.{slice_get-map}
use Rattle.transition_system.specs.Plain.{plain_transition}
use Rattle.transition_system.specs.declared.transitions.Transition.{Transition}
use Rattle.transition_system.specs.Meaning.{enabled_form}
use Rattle.st_form.specs.Plain.{plain}
use Rattle.st_form.specs.declared.formulas.Form.{False}
use Rattle.st_form.proofs.Nodes.{plain-False}
use Rattle.rule_laws.specs.Names.{enabled_if}

plain-found : (ts : List Transition) (n : ℕ) (t : Transition) → slice_get ts n ≡ Some t → slice_get (map plain_transition ts) n ≡ Some (plain_transition t)
plain-found ts n t is = slice_get-map plain_transition ts n ∙ ap (option_map plain_transition) is

plain-absent : (ts : List Transition) (n : ℕ) → slice_get ts n ≡ None → slice_get (map plain_transition ts) n ≡ None
plain-absent ts n is = slice_get-map plain_transition ts n ∙ ap (option_map plain_transition) is

pub fairness_some : (ts : List Transition) (n : ℕ) (t : Transition) → slice_get ts n ≡ Some t → Some t.fairness ≡ slice_get (map (λ x. x.fairness) (map plain_transition ts)) n
fairness_some ts n t is = sym (slice_get-map (λ x. x.fairness) (map plain_transition ts) n ∙ ap (option_map (λ x. x.fairness)) (plain-found ts n t is))

pub fairness_none : (ts : List Transition) (n : ℕ) → slice_get ts n ≡ None → None ≡ slice_get (map (λ x. x.fairness) (map plain_transition ts)) n
fairness_none ts n is = sym (slice_get-map (λ x. x.fairness) (map plain_transition ts) n ∙ ap (option_map (λ x. x.fairness)) (plain-absent ts n is))

pub enabled_some : (ts : List Transition) (n : ℕ) (t : Transition) → slice_get ts n ≡ Some t → enabled_if (slice_get (map plain_transition ts) n) ≡ enabled_form (plain_transition t)
enabled_some ts n t is = ap enabled_if (plain-found ts n t is)

pub enabled_none : (ts : List Transition) (n : ℕ) → slice_get ts n ≡ None → plain False ≡ enabled_if (slice_get (map plain_transition ts) n)
enabled_none ts n is = plain-False ∙ ap enabled_if (sym (plain-absent ts n is))
