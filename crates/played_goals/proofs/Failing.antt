-- A failure on a run is one on each longer run.
use Rattle.std.proofs.Common.{◌≡◌, ℕ, ◌≤◌, List, [], ◌∷◌, ◌++◌, map, length-append, arith, refl, sym, ap, ◌∙◌, subst}
use Rattle.st_form.specs.Formula.{Situation}
use Rattle.st_form.specs.declared.conditions.TransName.{TransName}
use Rattle.observations.specs.Observation.{Moment, Observation, last}
use Rattle.observations.specs.Extension.{extended}
use Rattle.st_program.specs.Tree.{Processes}
use Rattle.st_program.specs.Programs.{WellFormed}
use Rattle.spl_semantics.specs.Names.{all_names}
use Rattle.spl_semantics.specs.Runs.{State, place_of, IsSeenOf}
use Rattle.spl_semantics.specs.Observed.{seen}
use Rattle.spl_semantics.proofs.SeenRuns.{seen_is}
use Rattle.temporal_goals.specs.Texts.{PlainGoal, invariant, waiting, response}
use Rattle.temporal_goals.specs.Meaning.{test_of, number_of, GoalHolds}
use Rattle.run_judging.specs.declared.judged.Judged.TheVariants.{Fails}
use Rattle.trace_player.specs.Judgements.{GoalFrom, JudgedOn}
use Rattle.goal_laws.proofs.Beginning.{invariance as invariance_before, waiting as waiting_before, response as response_before}

-- a goal holds from each position of a run on which it holds
pub from_each : (goal : PlainGoal) (o : Observation Situation) → GoalHolds goal o → (i : ℕ) → i ≤ last o → GoalFrom goal o i
from_each (invariant f) o holds i h = holds i h
from_each (waiting f forms) o holds i h = holds i h
from_each (response f g bound) o holds i h = holds i h

before : (goal : PlainGoal) (o : Observation Situation) (extra : List (ℕ × Moment Situation)) (i : ℕ) → i ≤ last o → GoalFrom goal (extended o extra) i → GoalFrom goal o i
before (invariant f) o extra i h holds = invariance_before o extra (test_of f) i h holds
before (waiting f forms) o extra i h holds = waiting_before o extra (test_of f) (map test_of forms) i h holds
before (response f g bound) o extra i h holds = response_before o extra (test_of f) (test_of g) (number_of bound) i h holds

module _ (p : Processes) (well : WellFormed p) (s : State) (later more : List (TransName × State)) where
  abbrev seen_steps : List (TransName × State) → List (ℕ × Moment Situation)
  seen_steps steps = map (λ step. (place_of p step.0, seen p step.1)) steps

  behind : (steps : List (TransName × State)) → seen_steps (steps ++ more) ≡ seen_steps steps ++ seen_steps more
  behind [] = refl
  behind (x ∷ steps) = ap (λ z. (place_of p x.0, seen p x.1) ∷ z) (behind steps)

  -- what is seen of the longer run is an extension of what is seen of the run
  longer_is : (o longer : Observation Situation) → IsSeenOf p s later o → IsSeenOf p s (later ++ more) longer → longer ≡ extended o (seen_steps more)
  longer_is o longer seen_of longer_of =
      seen_is p well.numbered s (later ++ more) longer longer_of
      ∙ ap (λ z. record { fairness = map (λ n. n.1) (all_names p); first = seen p s; later = z }) (behind later)
      ∙ ap (λ o. extended o (seen_steps more)) (sym (seen_is p well.numbered s later o seen_of))

  module _ (o longer : Observation Situation) (seen_of : IsSeenOf p s later o) (longer_of : IsSeenOf p s (later ++ more) longer) (goal : PlainGoal) (i : ℕ) (failure : JudgedOn goal o (Fails i)) where
    pub there : GoalFrom goal longer i → ⊥
    there holds = failure.2 (before goal o (seen_steps more) i failure.1 (subst (λ z. GoalFrom goal z i) (longer_is o longer seen_of longer_of) holds))

    pub whole : GoalHolds goal longer → ⊥
    whole holds = there (from_each goal longer holds i within)
      where
        within : i ≤ last longer
        within =
            let sum = length-append o.later (seen_steps more) in
            let same = ap (λ o. last o) (longer_is o longer seen_of longer_of) in
            let low = failure.1 in
            omega arith
