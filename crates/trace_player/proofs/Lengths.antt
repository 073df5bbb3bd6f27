-- How long the lists of a played run are.
use Rattle.std.proofs.Common.{◌≡◌, ℕ, suc, Bool, true, false, List, [], ◌∷◌, length, Option, Some, None, Result, Ok, Err, IfOk, refl, ap, ◌∙◌, sym, if◌then◌else◌}
use Rattle.std.proofs.lemmas.List.{length-map}
use Rattle.st_form.specs.declared.conditions.TransName.{TransName}
use Rattle.st_program.specs.Tree.{Processes}
use Rattle.spl_semantics.specs.Limits.{wide_rests}
use Rattle.spl_semantics.specs.Plain.{plain_state}
use Rattle.spl_semantics.specs.Runs.{State}
use Rattle.trace_player.specs.declared.runs.Played.{Played}
use Rattle.trace_player.specs.declared.faults.PlayFault.{PlayFault}
use Rattle.trace_player.specs.Playing.{Outcome, made, too_large, illegal, onto, go_on, outcome, behind_move, states_of, Plays}
use Rattle.trace_player.proofs.Courses.{rows_long}

abbrev steps_in : Outcome → List (TransName × State)
steps_in (made later) = later
steps_in (too_large k) = []
steps_in (illegal k) = []

-- each move is a step
made-long : (p : Processes) (names : List TransName) (s : State) (k : ℕ) (later : List (TransName × State)) → outcome p names s k ≡ made later → length later ≡ length names
made-long p [] s k later h = by (wide_rests s.left p s.store) h
  where
    by : (b : Bool) → (if b then too_large k else made []) ≡ made later → length later ≡ 0
    by true h = cc
    by false h = sym (ap (λ o. length (steps_in o)) h)
made-long p (name ∷ names) s k later h = by (wide_rests s.left p s.store) (behind_move p s name) (λ t l. made-long p names t (suc k) l) h
  where
    on : (t : State) → ((l : List (TransName × State)) → outcome p names t (suc k) ≡ made l → length l ≡ length names)
        → (r : Outcome) → outcome p names t (suc k) ≡ r → onto name t r ≡ made later → length later ≡ suc (length names)
    on t down (made l) q h = sym (ap (λ o. length (steps_in o)) h) ∙ ap suc (down l q)
    on t down (too_large j) q h = cc
    on t down (illegal j) q h = cc

    by : (b : Bool) (o : Option State) → ((t : State) (l : List (TransName × State)) → outcome p names t (suc k) ≡ made l → length l ≡ length names)
        → (if b then too_large k else go_on o (λ t. outcome p names t (suc k)) name k) ≡ made later → length later ≡ suc (length names)
    by true o down h = cc
    by false None down h = cc
    by false (Some t) down h = on t (down t) (outcome p names t (suc k)) refl h

pub plays-long : (p : Processes) (s : State) (names : List TransName) (r : Result Played PlayFault) → Plays p s names r
    → IfOk r (λ played. (length played.states.items ≡ suc (length names)) × (length played.enabled.items ≡ suc (length names)))
plays-long p s names (Err fault) h = tt
plays-long p s names (Ok played) h =
    let later : List (TransName × State) = h.0 in
    let many : length later ≡ length names = made-long p names s 0 later h.1 in
    let all : length (states_of s later) ≡ suc (length names) = ap suc (length-map later (λ (step : TransName × State). step.1) ∙ many) in (
      sym (length-map played.states.items plain_state) ∙ ap length h.2.states ∙ all,
      rows_long p (states_of s later) played.enabled.items h.2.enabled ∙ all,
    )
