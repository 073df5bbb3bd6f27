-- Whether a transition is just, by its number.
use Rattle.std.proofs.Common.{◌≡◌, ◌∙◌, ap, sym, refl, ℕ, Bool, true, false, IsTrue, ◌↔◌, ◌⊎◌, inl, inr, List, map, slice_get, Some, None}
use Rattle.std.specs.Option.{option_map}
use Rattle.std.proofs.lemmas.Option.{slice_get-map}
use Rattle.observations.specs.declared.Fairness.{Fairness}
use Rattle.observations.specs.declared.Fairness.TheVariants.{Unfair, Just, Compassionate}
use Rattle.transition_system.specs.Plain.{plain_transition}
use Rattle.transition_system.specs.declared.transitions.Transition.{Transition}
use Rattle.diagram_reader.specs.Transitions.{owes_justice}

neither_is : (Unfair ≡ Just) ⊎ (Unfair ≡ Compassionate) → ⊥
neither_is (inl e) = cc
neither_is (inr e) = cc

justice_is : (f : Fairness) (b : Bool) → IsTrue b ↔ ((f ≡ Just) ⊎ (f ≡ Compassionate)) → b ≡ owes_justice (Some f)
justice_is Unfair true h = absurd (neither_is (h.0 refl))
justice_is Unfair false h = refl
justice_is Just true h = refl
justice_is Just false h = h.1 (inl refl)
justice_is Compassionate true h = refl
justice_is Compassionate false h = h.1 (inr refl)

module _ (ts : List Transition) (n : ℕ) where
  plain_at : slice_get (map (λ x. x.fairness) (map plain_transition ts)) n ≡ option_map (λ x. x.fairness) (option_map plain_transition (slice_get ts n))
  plain_at = slice_get-map (λ x. x.fairness) (map plain_transition ts) n ∙ ap (option_map (λ x. x.fairness)) (slice_get-map plain_transition ts n)

  pub just_some : (t : Transition) (b : Bool) → slice_get ts n ≡ Some t → IsTrue b ↔ ((t.fairness ≡ Just) ⊎ (t.fairness ≡ Compassionate)) → b ≡ owes_justice (slice_get (map (λ x. x.fairness) (map plain_transition ts)) n)
  just_some t b is h = justice_is t.fairness b h ∙ ap owes_justice (sym (plain_at ∙ ap (λ o. option_map (λ x. x.fairness) (option_map plain_transition o)) is))

  pub just_none : slice_get ts n ≡ None → false ≡ owes_justice (slice_get (map (λ x. x.fairness) (map plain_transition ts)) n)
  just_none is = ap owes_justice (sym (plain_at ∙ ap (λ o. option_map (λ x. x.fairness) (option_map plain_transition o)) is))
