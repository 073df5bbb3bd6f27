-- Nested waiting-for holds where its conditions do.
use Rattle.std.proofs.Common.{◌≡◌, sym, subst, arith, ℕ, zero, suc, ◌+◌, ◌-◌, ◌<◌, ◌≤◌, List, [], ◌∷◌, map, length, false, IsTrue, Some, None, ◌⊎◌, inl, inr}
use Rattle.std.proofs.lemmas.Bool.{false≢true}
use Rattle.st_form.specs.Formula.{Formula, Situation, truth, some_truth, truth_value, some, formulas}
use Rattle.st_form.specs.declared.conditions.Premise.TheVariants.{Cover, Level, Move}
use Rattle.observations.specs.Observation.{Observation, state_at, last}
use Rattle.observations.specs.Goals.{Waiting}
use Rattle.observations.specs.Waits.{Waits}
use Rattle.observations.specs.Waits.Waits.{Ended, Reached, Kept, Passed}
use Rattle.observations.proofs.Positions.{name_from}
use Rattle.observations.proofs.WaitingLevels.{levels}
use Rattle.transition_system.specs.Systems.{System}
use Rattle.transition_system.specs.Meaning.{IsRun}
use Rattle.temporal_goals.specs.Meaning.{test_of}
use Rattle.vc_generator.specs.Building.{triple_of}
use Rattle.vc_generator.specs.Validity.{HoldThroughout, TrueThroughout}
use Rattle.vc_generator.specs.Walks.{plainly, by_mode}
use Rattle.vc_generator.proofs.Truths.{either}
use Rattle.vc_generator.proofs.Leading.{triple-leads, entails-true}
use Rattle.vc_generator.proofs.Walking.{mode-holds, first-hold, others-hold}
use Rattle.vc_generator.proofs.Running.{step-at}
use Rattle.rule_laws.specs.WaitingFor.{level_list, move_list, waiting_list}

module _ (step : ℕ) (system : System) (lemmas : List Formula) (o : Observation Situation) (run : IsRun system o) (cited : TrueThroughout lemmas o) where
  -- from position k, where one of the levels holds, there is waiting
  abbrev FromHere : ℕ → Type 0
  FromHere k = (fs qs : List Formula) → length fs ≡ length qs → HoldThroughout (level_list step lemmas fs qs) o → HoldThroughout (move_list step system lemmas fs) o
      → IsTrue (some_truth (state_at o k) (formulas fs)) → Waits o (map test_of qs) k

  -- a step from a level leads to it or to a lower one
  next-level : (k : ℕ) → k < last o → (f g : Formula) (fs : List Formula) → HoldThroughout (move_list step system lemmas (f ∷ g ∷ fs)) o → IsTrue (truth (state_at o k) f)
      → IsTrue (some_truth (state_at o (suc k)) (formulas (f ∷ g ∷ fs)))
  next-level k h f g fs moves here =
      let taken = name_from o k h in
      let went = step-at system o k taken.0 run taken.1 in
      let own = first-hold (state_at o k) _ (move_list step system lemmas (g ∷ fs)) (moves k (omega arith)) in
      let leads = mode-holds (state_at o k) (λ n t j m. triple_of m lemmas f (some (formulas (f ∷ g ∷ fs))) (truth_value false) (by_mode step Move (Some (length (g ∷ fs))) t.name j) ∷ []) system taken.0 went.place went.transition went.mode went.numbered went.placed own in
      elim (triple-leads went.mode (state_at o k) lemmas f (some (formulas (f ∷ g ∷ fs))) (truth_value false) (by_mode step Move (Some (length (g ∷ fs))) went.transition.name (1 + went.place)) leads.0 (cited k (omega arith)) here went.goes) [
        | inl behind ↦ subst (λ s. IsTrue (some_truth s (formulas (f ∷ g ∷ fs)))) (sym went.leads) behind
        | inr never ↦ absurd (false≢true never)
      ]

  at-position : (k : ℕ) → k ≤ last o → (last o < suc k) ⊎ ((k < last o) × FromHere (suc k)) → FromHere k
  at-position k h ahead [] qs same levels moves here = absurd (false≢true here)
  at-position k h ahead (f ∷ fs) [] same levels moves here = cc
  at-position k h ahead (f ∷ []) (q ∷ []) same levels moves here =
      elim (either (truth (state_at o k) f) false here) [
        | inl now ↦ Reached (entails-true (state_at o k) lemmas f q (plainly step Level (Some 0)) (levels k h).0 (cited k h) now)
        | inr never ↦ absurd (false≢true never)
      ]
  at-position k h ahead (f ∷ []) (q ∷ r ∷ qs) same levels moves here = cc
  at-position k h ahead (f ∷ g ∷ fs) (q ∷ []) same levels moves here = cc
  at-position k h ahead (f ∷ g ∷ fs) (q ∷ r ∷ qs) same levels moves here =
      elim (either (truth (state_at o k) f) (some_truth (state_at o k) (formulas (g ∷ fs))) here) [
        | inl now ↦ Kept {form = test_of q} {next = test_of r} {forms = map test_of qs} (entails-true (state_at o k) lemmas f q (plainly step Level (Some (length (g ∷ fs)))) (levels k h).0 (cited k h) now) (elim ahead [
          | inl ended ↦ Ended ended
          | inr further ↦ further.1 (f ∷ g ∷ fs) (q ∷ r ∷ qs) same levels moves (next-level k further.0 f g fs moves now)
        ])
        | inr later ↦
            let same' : length (g ∷ fs) ≡ length (r ∷ qs) = cc in
            let levels' : HoldThroughout (level_list step lemmas (g ∷ fs) (r ∷ qs)) o = λ x b. (levels x b).1 in
            let moves' : HoldThroughout (move_list step system lemmas (g ∷ fs)) o = λ x b. others-hold (state_at o x) _ (move_list step system lemmas (g ∷ fs)) (moves x b) in
            Passed {form = test_of q} {next = test_of r} {forms = map test_of qs} (at-position k h ahead (g ∷ fs) (r ∷ qs) same' levels' moves' later)
      ]

  from-position : (n k : ℕ) → k + n ≡ last o → FromHere k
  from-position zero k e = at-position k (omega arith) (inl (omega arith))
  from-position (suc n) k e = at-position k (omega arith) (inr (omega arith, from-position n (suc k) (omega arith)))

  -- waiting-for holds where its conditions do
  pub waiting-sound : (p : Formula) (goals forms : List Formula) → length forms ≡ length goals → HoldThroughout (waiting_list step system lemmas p goals forms) o → Waiting (test_of p) (map test_of goals) o
  waiting-sound p goals forms same all k h holds =
      levels o (map test_of goals) k h (from-position (last o - k) k (omega arith) forms goals same
      (λ x b. first-hold (state_at o x) (level_list step lemmas forms goals) (move_list step system lemmas forms) (all x b).1)
      (λ x b. others-hold (state_at o x) (level_list step lemmas forms goals) (move_list step system lemmas forms) (all x b).1)
      (entails-true (state_at o k) lemmas p (some (formulas forms)) (plainly step Cover None) (all k h).0 (cited k h) holds))
