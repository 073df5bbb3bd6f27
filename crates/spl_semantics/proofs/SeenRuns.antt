-- What is seen of a run, as `Runs` says it and as it is computed, is one observation.
use Rattle.std.proofs.Common.{◌≡◌, ℕ, Bool, true, false, List, [], ◌∷◌, map, refl, sym, ap, ◌∙◌}
use Rattle.st_form.specs.Formula.{Situation}
use Rattle.st_form.specs.declared.conditions.TransName.{TransName}
use Rattle.observations.specs.declared.Fairness.{Fairness}
use Rattle.observations.specs.Observation.{Moment, Observation}
use Rattle.st_program.specs.Tree.{Processes}
use Rattle.st_program.specs.Spots.{IsNumbered}
use Rattle.spl_semantics.specs.Names.{all_names}
use Rattle.spl_semantics.specs.Runs.{State, image, AreFlags, IsSeen, place_of, AreSeen, IsSeenOf}
use Rattle.spl_semantics.specs.Observed.{is_enabled, seen, observed}
use Rattle.spl_semantics.proofs.EnabledNames.{enabled_step, step_enabled}

same_bool : (a b : Bool) → (a ≡ true → b ≡ true) → (b ≡ true → a ≡ true) → a ≡ b
same_bool true b f g = sym (f refl)
same_bool false true f g = g refl
same_bool false false f g = refl

module _ (p : Processes) (numbered : IsNumbered p) where
  flags_are : (s : State) (names : List (TransName × Fairness)) (flags : List Bool) → AreFlags p s names flags → flags ≡ map (λ n. is_enabled p s n.0) names
  flags_are s [] [] h = refl
  flags_are s [] (flag ∷ flags) h = absurd h
  flags_are s (n ∷ names) [] h = absurd h
  flags_are s (n ∷ names) (flag ∷ flags) h =
      let first : flag ≡ is_enabled p s n.0 =
      same_bool flag (is_enabled p s n.0) (λ e. (let t = h.0.0 e in step_enabled p numbered s n.0 t.0 t.1)) (λ e. h.0.1 (enabled_step p numbered s n.0 e)) in
      ap (λ b. b ∷ flags) first ∙ ap (λ bs. is_enabled p s n.0 ∷ bs) (flags_are s names flags h.1)

  are_flags : (s : State) (names : List (TransName × Fairness)) → AreFlags p s names (map (λ n. is_enabled p s n.0) names)
  are_flags s [] = tt
  are_flags s (n ∷ names) = ((enabled_step p numbered s n.0, λ t. step_enabled p numbered s n.0 t.0 t.1), are_flags s names)

  moment_is : (s : State) (m : Moment Situation) → IsSeen p s m → m ≡ seen p s
  moment_is s m h =
      ap (λ x. record { state = x; enabled = m.enabled }) h.state_is ∙ ap (λ fs. record { state = image p s; enabled = fs }) (flags_are s (all_names p) m.enabled h.flags)

  is_seen : (s : State) → IsSeen p s (seen p s)
  is_seen s = record { state_is = refl; flags = are_flags s (all_names p) }

  steps_are : (later : List (TransName × State)) (steps : List (ℕ × Moment Situation)) → AreSeen p later steps → steps ≡ map (λ step. (place_of p step.0, seen p step.1)) later
  steps_are [] [] h = refl
  steps_are [] (x ∷ steps) h = absurd h
  steps_are (step ∷ later) [] h = absurd h
  steps_are (step ∷ later) (x ∷ steps) h =
      ap (λ k. (k, x.1) ∷ steps) h.0
      ∙ ap (λ m. (place_of p step.0, m) ∷ steps) (moment_is step.1 x.1 h.1)
      ∙ ap (λ l. (place_of p step.0, seen p step.1) ∷ l) (steps_are later steps h.2)

  are_seen : (later : List (TransName × State)) → AreSeen p later (map (λ step. (place_of p step.0, seen p step.1)) later)
  are_seen [] = tt
  are_seen (step ∷ later) = (refl, is_seen step.1, are_seen later)

  -- what is seen of a run is what is computed
  pub seen_is : (s : State) (later : List (TransName × State)) (o : Observation Situation) → IsSeenOf p s later o → o ≡ observed p s later
  seen_is s later o h =
      ap (λ f. record { fairness = f; first = o.first; later = o.later }) h.fairness_is
      ∙ ap (λ m. record { fairness = map (λ n. n.1) (all_names p); first = m; later = o.later }) (moment_is s o.first h.first_seen)
      ∙ ap (λ l. record { fairness = map (λ n. n.1) (all_names p); first = seen p s; later = l }) (steps_are later o.later h.steps_seen)

  -- and what is computed is seen
  pub observed_seen : (s : State) (later : List (TransName × State)) → IsSeenOf p s later (observed p s later)
  observed_seen s later = record { fairness_is = refl; first_seen = is_seen s; steps_seen = are_seen later }
