-- The states of a program's computation are a sequence of its states, and a fair one where the computation is fair by the
-- names of its steps.
use Rattle.std.proofs.Common.{◌≡◌, ℕ, suc, ◌⊎◌, inl, inr, sym, subst, ap, ◌∙◌}
use Rattle.std.specs.Prelude.{slice_get}
use Rattle.std.specs.declared.option.Option.TheVariants.{Some}
use Rattle.basic_laws.proofs.Types.{some_same}
use Rattle.st_form.specs.Formula.{Formula, Situation}
use Rattle.st_form.specs.declared.conditions.TransName.{TransName}
use Rattle.observations.specs.declared.Fairness.TheVariants.{Just, Compassionate}
use Rattle.observations.specs.Observation.{IsJust, IsCompassionate}
use Rattle.st_program.specs.Tree.{Processes}
use Rattle.st_program.specs.Member.{Member}
use Rattle.st_program.specs.Programs.{WellFormed}
use Rattle.spl_semantics.specs.Names.{all_names}
use Rattle.spl_semantics.specs.Runs.{State, Leads, place_of}
use Rattle.spl_semantics.proofs.Members.{member_at}
use Rattle.spl_semantics.proofs.ControlMoves.{step_named}
use Rattle.spl_semantics.proofs.NameOrder.{Named, place_at, at_its_place}
use Rattle.fair_computations.specs.Computations.{Computation, EnabledAt, TakenAt}
use Rattle.fair_computations.specs.Fair.{GetsJustice, GetsCompassion, GetsJusticeClassically, GetsCompassionClassically, GetsCompassionByTheBooks, IsFair, IsFairByTheBooks, IsFairClassically}
use Rattle.fair_computations.proofs.Eventually as Eventually
use Rattle.fair_runs.specs.Programs.{IsComputationOf}
use Rattle.fair_runs.specs.Sequences.{IsSequenceOf, IsEnabledAlong, IsTakenAlong, IsOwedJustice, IsFairSequence, IsFairSequenceByTheBooks, IsFairSequenceClassically}
use Rattle.fair_runs.proofs.Places.{At, fairness_at, on_leads}
use Rattle.fair_runs.proofs.Seen.{seen_along, computed}
use Rattle.fair_runs.proofs.Sequences.{reached}

module _ (p : Processes) (initial : Formula) (well : WellFormed p) (state : ℕ → State) where
  module _ (sequence : IsSequenceOf p initial state) where
    -- a step with the name of a place is a step of the name there
    taken_along : (nm : ℕ → TransName) → ((k : ℕ) → Leads p (state k) (nm k) (state (suc k))) → (n : Named) → Member n (all_names p) → (k : ℕ) → place_of p (nm k) ≡ place_of p n.0 → IsTakenAlong p state n.0 k
    taken_along nm leads n member k same =
        let own = step_named p initial well (state k) (state (suc k)) (nm k) (reached p initial well state sequence k) (leads k) in
        let at = at_its_place (all_names p) own.0 own.1 in
        let there = at_its_place (all_names p) n member in
        let place : place_of p own.0.0 ≡ place_of p n.0 = ap (place_of p) own.2 ∙ same in
        let one : at.0 ≡ there.0 = some_same at.0 there.0 (sym at.1 ∙ ap (λ x. slice_get (all_names p) x) place ∙ there.1) in
        subst (λ z. Leads p (state k) z (state (suc k))) (sym own.2 ∙ sym at.2 ∙ ap (λ z. z.0) one ∙ there.2) (leads k)

    -- a computation that is fair by the names of its steps is fair by its states
    module _ (nm : ℕ → TransName) (leads : (k : ℕ) → Leads p (state k) (nm k) (state (suc k))) where
      abbrev seen_named : Computation Situation
      seen_named = seen_along p state nm

      module _ (n : Named) (member : Member n (all_names p)) where
        abbrev its_place : (x : ℕ) × At p x n
        its_place = member_at n (all_names p) member

        taken_named : (k : ℕ) → TakenAt seen_named its_place.0 k → IsTakenAlong p state n.0 k
        taken_named k taken = taken_along nm leads n member k (taken ∙ sym (place_at p well.numbered its_place.0 n its_place.1))

        enabled_named : (k : ℕ) → IsEnabledAlong p state n.0 k → EnabledAt seen_named its_place.0 k
        enabled_named k to = on_leads p well.numbered (state k) its_place.0 n its_place.1 to

        either_named : (k : ℕ) → TakenAt seen_named its_place.0 k ⊎ ¬ (EnabledAt seen_named its_place.0 k) → IsTakenAlong p state n.0 k ⊎ ¬ (IsEnabledAlong p state n.0 k)
        either_named k (inl taken) = inl (taken_named k taken)
        either_named k (inr off) = inr (λ to. off (enabled_named k to))

        owed_here : slice_get seen_named.fairness its_place.0 ≡ Some n.1
        owed_here = fairness_at p its_place.0 n its_place.1

        justice_named : ((x : ℕ) → IsJust seen_named.fairness x → GetsJustice (TakenAt seen_named x) (EnabledAt seen_named x)) → IsJust seen_named.fairness its_place.0 → GetsJustice (IsTakenAlong p state n.0) (IsEnabledAlong p state n.0)
        justice_named fair is k = let found = fair its_place.0 is k in (found.0, found.1, either_named found.0 found.2)

        compassion_named : IsFair seen_named → IsCompassionate seen_named.fairness its_place.0 → GetsCompassion (IsTakenAlong p state n.0) (IsEnabledAlong p state n.0)
        compassion_named fair is = elim (fair.compassionate its_place.0 is) [
          | inl again ↦ inl (λ k. let found = again k in (found.0, found.1, taken_named found.0 found.2))
          | inr off ↦ inr (off.0, λ m from to. off.1 m from (enabled_named m to))
        ]

        compassion_named_words : IsFairByTheBooks seen_named → IsCompassionate seen_named.fairness its_place.0 → GetsCompassionByTheBooks (IsTakenAlong p state n.0) (IsEnabledAlong p state n.0)
        compassion_named_words fair is again k =
            let found = fair.compassionate its_place.0 is (λ j. let on = again j in (on.0, on.1, enabled_named on.0 on.2)) k in
            (found.0, found.1, taken_named found.0 found.2)

        justice_named_classically : IsFairClassically seen_named → IsJust seen_named.fairness its_place.0 → GetsJusticeClassically (IsTakenAlong p state n.0) (IsEnabledAlong p state n.0)
        justice_named_classically fair is =
            Eventually.weaker (λ k. TakenAt seen_named its_place.0 k ⊎ ¬ (EnabledAt seen_named its_place.0 k)) (λ k. IsTakenAlong p state n.0 k ⊎ ¬ (IsEnabledAlong p state n.0 k)) either_named (fair.just its_place.0 is)

        compassion_named_classically : IsFairClassically seen_named → IsCompassionate seen_named.fairness its_place.0 → GetsCompassionClassically (IsTakenAlong p state n.0) (IsEnabledAlong p state n.0)
        compassion_named_classically fair is again =
            Eventually.weaker (TakenAt seen_named its_place.0) (IsTakenAlong p state n.0) taken_named
            (fair.compassionate its_place.0 is (Eventually.weaker (IsEnabledAlong p state n.0) (EnabledAt seen_named its_place.0) enabled_named again))

      fair_just : ((x : ℕ) → IsJust seen_named.fairness x → GetsJustice (TakenAt seen_named x) (EnabledAt seen_named x)) → (name : TransName) → IsOwedJustice p name → GetsJustice (IsTakenAlong p state name) (IsEnabledAlong p state name)
      fair_just fair name (inl m) = justice_named (name, Just) m fair (inl (owed_here (name, Just) m))
      fair_just fair name (inr m) = justice_named (name, Compassionate) m fair (inr (owed_here (name, Compassionate) m))

      fair_just_classically : IsFairClassically seen_named → (name : TransName) → IsOwedJustice p name → GetsJusticeClassically (IsTakenAlong p state name) (IsEnabledAlong p state name)
      fair_just_classically fair name (inl m) = justice_named_classically (name, Just) m fair (inl (owed_here (name, Just) m))
      fair_just_classically fair name (inr m) = justice_named_classically (name, Compassionate) m fair (inr (owed_here (name, Compassionate) m))

      named_fair : IsFair seen_named → IsFairSequence p state
      named_fair fair = record { just = fair_just fair.just; compassionate = λ name m. compassion_named (name, Compassionate) m fair (owed_here (name, Compassionate) m) }

      named_fair_words : IsFairByTheBooks seen_named → IsFairSequenceByTheBooks p state
      named_fair_words fair = record { just = fair_just fair.just; compassionate = λ name m. compassion_named_words (name, Compassionate) m fair (owed_here (name, Compassionate) m) }

      named_fair_classically : IsFairClassically seen_named → IsFairSequenceClassically p state
      named_fair_classically fair = record {
        just = fair_just_classically fair;
        compassionate = λ name m. compassion_named_classically (name, Compassionate) m fair (owed_here (name, Compassionate) m);
      }

module _ (p : Processes) (initial : Formula) (well : WellFormed p) (c : Computation Situation) (run : IsComputationOf p initial c) where
  pub sequence_of : IsSequenceOf p initial run.state
  sequence_of = record { first = run.first; next = λ k. (run.name k, run.leads k) }

  pub fair_sequence : IsFair c → IsFairSequence p run.state
  fair_sequence fair = named_fair p initial well run.state sequence_of run.name run.leads (subst (λ c. IsFair c) (computed p well.numbered initial c run) fair)

  pub fair_sequence_words : IsFairByTheBooks c → IsFairSequenceByTheBooks p run.state
  fair_sequence_words fair = named_fair_words p initial well run.state sequence_of run.name run.leads (subst (λ c. IsFairByTheBooks c) (computed p well.numbered initial c run) fair)

  pub fair_sequence_classically : IsFairClassically c → IsFairSequenceClassically p run.state
  fair_sequence_classically fair = named_fair_classically p initial well run.state sequence_of run.name run.leads (subst (λ c. IsFairClassically c) (computed p well.numbered initial c run) fair)
