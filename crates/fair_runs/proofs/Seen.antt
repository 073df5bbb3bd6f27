-- What is seen of infinite runs, computed from their states, and of longer finite ones.
use Rattle.std.proofs.Common.{◌≡◌, ℕ, zero, suc, ◌≤◌, List, [], ◌∷◌, ◌++◌, map, length, arith, refl, sym, ap, ◌∙◌}
use Rattle.st_form.specs.Formula.{Formula, Situation}
use Rattle.st_form.specs.declared.conditions.TransName.{TransName}
use Rattle.observations.specs.Observation.{Moment, moment_after}
use Rattle.st_program.specs.Tree.{Processes}
use Rattle.st_program.specs.Spots.{IsNumbered}
use Rattle.spl_semantics.specs.Names.{all_names}
use Rattle.spl_semantics.specs.Runs.{State, IsSeen, AreSeen, image, place_of}
use Rattle.spl_semantics.specs.Observed.{enabled_names, seen}
use Rattle.spl_semantics.proofs.SeenRuns.{seen_is, observed_seen}
use Rattle.fair_computations.specs.Computations.{Computation, seen_at}
use Rattle.fair_runs.specs.Programs.{IsComputationOf}

-- what is seen of the states and the names of the steps between them, computed
abbrev pub seen_along : Processes → (ℕ → State) → (ℕ → TransName) → Computation Situation
seen_along p state name = record {
  fairness = map (λ n. n.1) (all_names p);
  state = λ k. image p (state k);
  enabled = λ k. enabled_names p (state k);
  name = λ k. place_of p (name k);
}

module _ (p : Processes) (numbered : IsNumbered p) where
  pub is_seen : (s : State) → IsSeen p s (seen p s)
  is_seen s = (observed_seen p numbered s []).first_seen

  seen_moment : (s : State) (m : Moment Situation) → IsSeen p s m → m ≡ seen p s
  seen_moment s m h =
      ap (λ o. o.first)
      (seen_is p numbered s [] (record { fairness = map (λ n. n.1) (all_names p); first = m; later = [] }) (record { fairness_is = refl; first_seen = h; steps_seen = tt }))

  pub computed : (initial : Formula) (c : Computation Situation) (run : IsComputationOf p initial c) → c ≡ seen_along p run.state run.name
  computed initial c run = λ i. record {
    fairness = run.fairness_is i;
    state = λ k. (seen_moment (run.state k) (seen_at c k) (run.seen k) i).state;
    enabled = λ k. (seen_moment (run.state k) (seen_at c k) (run.seen k) i).enabled;
    name = λ k. run.name_is k i;
  }

module _ (p : Processes) where
  pub seen_length : (later : List (TransName × State)) (steps : List (ℕ × Moment Situation)) → AreSeen p later steps → length steps ≡ length later
  seen_length [] [] are = refl
  seen_length [] (x ∷ steps) are = absurd are
  seen_length (step ∷ later) [] are = absurd are
  seen_length (step ∷ later) (x ∷ steps) are = ap suc (seen_length later steps are.2)

  moment_first : (m : Moment Situation) (steps : List (ℕ × Moment Situation)) → moment_after m steps 0 ≡ m
  moment_first m [] = refl
  moment_first m (x ∷ steps) = refl

  same_first : (s : State) (m n : Moment Situation) (steps more : List (ℕ × Moment Situation)) → IsSeen p s m → IsSeen p s n → (moment_after m steps 0).state ≡ (moment_after n more 0).state
  same_first s m n steps more first other =
      ap (λ x. x.state) (moment_first m steps) ∙ first.state_is ∙ sym other.state_is ∙ ap (λ x. x.state) (sym (moment_first n more))

  -- the states of a run are seen at the same positions of a longer one
  pub same_state : (s : State) (later extra : List (TransName × State)) (m n : Moment Situation) (steps more : List (ℕ × Moment Situation)) (k : ℕ)
      → IsSeen p s m → IsSeen p s n → AreSeen p later steps → AreSeen p (later ++ extra) more → k ≤ length later
      → (moment_after m steps k).state ≡ (moment_after n more k).state
  same_state s later extra m n steps more zero first other are longer h = same_first s m n steps more first other
  same_state s [] extra m n steps more (suc k) first other are longer h = absurd (omega arith)
  same_state s (step ∷ later) extra m n [] more (suc k) first other are longer h = absurd are
  same_state s (step ∷ later) extra m n (x ∷ steps) [] (suc k) first other are longer h = absurd longer
  same_state s (step ∷ later) extra m n (x ∷ steps) (y ∷ more) (suc k) first other are longer h =
      same_state step.1 later extra x.1 y.1 steps more k are.1 longer.1 are.2 longer.2 (omega arith)
