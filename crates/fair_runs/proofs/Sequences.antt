-- What holds on all runs of a program holds along each fair sequence of its states, whichever names its steps have.
use Rattle.std.proofs.Common.{◌≡◌, ℕ, zero, suc, ◌≤◌, ◌⊎◌, inl, inr, true, false, map, refl, sym, subst, ap, ◌∙◌}
use Rattle.std.specs.declared.option.Option.TheVariants.{Some}
use Rattle.st_form.specs.Formula.{Formula, Situation}
use Rattle.st_form.specs.declared.conditions.TransName.{TransName}
use Rattle.observations.specs.declared.Fairness.TheVariants.{Just, Compassionate}
use Rattle.observations.specs.Observation.{IsJust, IsCompassionate}
use Rattle.st_program.specs.Tree.{Processes}
use Rattle.st_program.specs.Programs.{WellFormed}
use Rattle.spl_semantics.specs.Names.{all_names}
use Rattle.spl_semantics.specs.Runs.{State, Reached, first, next, Leads, image, place_of}
use Rattle.spl_semantics.specs.Observed.{is_enabled}
use Rattle.spl_semantics.proofs.Members.{at_member}
use Rattle.spl_semantics.proofs.ControlMoves.{step_named}
use Rattle.spl_semantics.proofs.EnabledNames.{enabled_step, step_enabled}
use Rattle.spl_semantics.proofs.NameOrder.{Named, place_at, at_its_place}
use Rattle.temporal_goals.specs.Texts.{PlainGoal, invariant, waiting, response}
use Rattle.temporal_goals.specs.Meaning.{test_of, number_of, GoalHolds}
use Rattle.obligation_laws.specs.Obligations.{HoldsOnRuns}
use Rattle.fair_computations.specs.Computations.{Computation, EnabledAt, beginning}
use Rattle.fair_computations.specs.Fair.{AgainAndAgain, FromSomeOn, AlwaysEventually, GetsCompassion, GetsCompassionByTheBooks, SearchesEnd}
use Rattle.fair_computations.proofs.Coming as Coming
use Rattle.fair_computations.proofs.Naming.{Naming, renamed, MayOrNot}
use Rattle.fair_computations.proofs.Eventually as Eventually
use Rattle.fair_computations.proofs.Fairly as Fairly
use Rattle.fair_computations.proofs.Levels as Levels
use Rattle.fair_computations.proofs.Settling.{again_or_none}
use Rattle.fair_runs.specs.Programs.{IsComputationOf}
use Rattle.fair_runs.specs.Goals.{HoldsAlong, HoldsEventually}
use Rattle.fair_runs.specs.Sequences.{IsSequenceOf, IsEnabledAlong, IsTakenAlong, IsOwedJustice, IsOwedCompassion, IsFairSequence, IsFairSequenceByTheBooks, IsFairSequenceClassically}
use Rattle.fair_runs.proofs.Places.{At, owed_at, leads_on}
use Rattle.fair_runs.proofs.Programs.{beginnings}
use Rattle.fair_runs.proofs.Seen.{seen_along, is_seen}

module _ (p : Processes) (initial : Formula) (well : WellFormed p) (state : ℕ → State) where
  owed_compassion : (x : ℕ) (n : Named) → At p x n → n.1 ≡ Compassionate → IsOwedCompassion p n.0
  owed_compassion x n at e = at_member (n.0, Compassionate) (all_names p) x (at ∙ ap (λ f. Some (n.0, f)) e)

  owed_justice : (x : ℕ) (n : Named) → At p x n → n.1 ≡ Just → IsOwedJustice p n.0
  owed_justice x n at e = inl (at_member (n.0, Just) (all_names p) x (at ∙ ap (λ f. Some (n.0, f)) e))

  -- the step from position k may be one of the name at the place
  abbrev May : ℕ → ℕ → Type 0
  May x k = (n : Named) × At p x n × Leads p (state k) n.0 (state (suc k))

  module _ (sequence : IsSequenceOf p initial state) where
    pub reached : (k : ℕ) → Reached p initial (state k)
    reached zero = first sequence.first
    reached (suc k) = next (sequence.next k).0 (reached k) (sequence.next k).1

    may_be : (k : ℕ) (name : TransName) → Leads p (state k) name (state (suc k)) → (x : ℕ) × May x k
    may_be k name leads =
        let n = step_named p initial well (state k) (state (suc k)) name (reached k) leads in
        let at = at_its_place (all_names p) n.0 n.1 in
        (place_of p n.0.0, (at.0, at.1, subst (λ z. Leads p (state k) z (state (suc k))) (sym (at.2 ∙ n.2)) leads))

    abbrev seen_by : Computation Situation
    seen_by = seen_along p state (λ k. (sequence.next k).0)

    some_names : Naming seen_by May
    some_names = record { name = λ k. (may_be k (sequence.next k).0 (sequence.next k).1).0; may = λ k. (may_be k (sequence.next k).0 (sequence.next k).1).1 }

    -- with any of these names the sequence is a computation of the program
    is_computation : (v : Naming seen_by May) → IsComputationOf p initial (renamed seen_by May v)
    is_computation v = record {
      state = state;
      name = λ k. (v.may k).0.0;
      first = sequence.first;
      leads = λ k. (v.may k).2;
      fairness_is = refl;
      seen = λ k. is_seen p well.numbered (state k);
      name_is = λ k. sym (place_at p well.numbered (v.name k) (v.may k).0 (v.may k).1);
    }

    -- what a name gets by its place, where it gets it by its steps
    disabled : (x : ℕ) (n : Named) → At p x n → (k : ℕ) → ¬ (IsEnabledAlong p state n.0 k) → ¬ (EnabledAt seen_by x k)
    disabled x n at k off = λ on. off (leads_on p well.numbered (state k) x n at on)

    justice_at : (fair : IsFairSequence p state) (x : ℕ) (n : Named) → At p x n → IsOwedJustice p n.0 → (k : ℕ) → (m : ℕ) × (k ≤ m) × MayOrNot seen_by May x m
    justice_at fair x n at owed k = let found = fair.just n.0 owed k in (found.0, found.1, elim found.2 [ inl leads ↦ inl (n, at, leads) | inr off ↦ inr (disabled x n at found.0 off) ])

    justice : (fair : IsFairSequence p state) (x : ℕ) → IsJust seen_by.fairness x → (k : ℕ) → (m : ℕ) × (k ≤ m) × MayOrNot seen_by May x m
    justice fair x (inl e) k = let n = owed_at p x Just e in justice_at fair x n.0 n.1 (owed_justice x n.0 n.1 n.2) k
    justice fair x (inr e) k = let n = owed_at p x Compassionate e in justice_at fair x n.0 n.1 (inr (owed_compassion x n.0 n.1 n.2)) k

    compassion : (fair : IsFairSequence p state) (x : ℕ) → IsCompassionate seen_by.fairness x → AgainAndAgain (May x) ⊎ FromSomeOn (λ m. ¬ (EnabledAt seen_by x m))
    compassion fair x e =
        let n = owed_at p x Compassionate e in
        elim (fair.compassionate n.0.0 (owed_compassion x n.0 n.1 n.2)) [
          | inl again ↦ inl (λ k. let found = again k in (found.0, found.1, (n.0, n.1, found.2)))
          | inr off ↦ inr (off.0, λ m from. disabled x n.0 n.1 m (off.1 m from))
        ]

    justice_classically_at : (fair : IsFairSequenceClassically p state) (x : ℕ) (n : Named) → At p x n → IsOwedJustice p n.0 → AlwaysEventually (MayOrNot seen_by May x)
    justice_classically_at fair x n at owed =
        Eventually.weaker (λ k. IsTakenAlong p state n.0 k ⊎ ¬ (IsEnabledAlong p state n.0 k)) (MayOrNot seen_by May x)
        (λ k which. elim which [ inl leads ↦ inl (n, at, leads) | inr off ↦ inr (disabled x n at k off) ])
        (fair.just n.0 owed)

    justice_classically : (fair : IsFairSequenceClassically p state) (x : ℕ) → IsJust seen_by.fairness x → AlwaysEventually (MayOrNot seen_by May x)
    justice_classically fair x (inl e) = let n = owed_at p x Just e in justice_classically_at fair x n.0 n.1 (owed_justice x n.0 n.1 n.2)
    justice_classically fair x (inr e) = let n = owed_at p x Compassionate e in justice_classically_at fair x n.0 n.1 (inr (owed_compassion x n.0 n.1 n.2))

    compassion_classically : (fair : IsFairSequenceClassically p state) (x : ℕ) → IsCompassionate seen_by.fairness x → AlwaysEventually (EnabledAt seen_by x) → AlwaysEventually (May x)
    compassion_classically fair x e again =
        let n = owed_at p x Compassionate e in
        Eventually.weaker (IsTakenAlong p state n.0.0) (May x) (λ k leads. (n.0, n.1, leads))
        (fair.compassionate n.0.0 (owed_compassion x n.0 n.1 n.2) (Eventually.weaker (EnabledAt seen_by x) (IsEnabledAlong p state n.0.0) (λ k on. leads_on p well.numbered (state k) x n.0 n.1 on) again))

    abbrev images : ℕ → Situation
    images k = image p (state k)

    holds_seen : (goal : PlainGoal) → HoldsOnRuns p initial goal → (v : Naming seen_by May) (n : ℕ) → GoalHolds goal (beginning (renamed seen_by May v) n)
    holds_seen goal holds v n = holds (beginning (renamed seen_by May v) n) (beginnings p initial (renamed seen_by May v) (is_computation v) n)

    pub along : (goal : PlainGoal) → HoldsOnRuns p initial goal → IsFairSequence p state → HoldsAlong goal images
    along (invariant f) holds fair = Fairly.invariance (renamed seen_by May some_names) (test_of f) (holds_seen (invariant f) holds some_names)
    along (waiting f forms) holds fair = Levels.waiting (test_of f) (map test_of forms) (renamed seen_by May some_names) (holds_seen (waiting f forms) holds some_names)
    along (response f g bound) holds fair =
        Coming.comes seen_by May (λ A. A) (λ A a. a) (λ A B a f. f a) (test_of f) (test_of g) (number_of bound) (holds_seen (response f g bound) holds) some_names (justice fair) (compassion fair)

    pub eventually : (goal : PlainGoal) → HoldsOnRuns p initial goal → IsFairSequenceClassically p state → HoldsEventually goal images
    eventually (invariant f) holds fair = Fairly.invariance (renamed seen_by May some_names) (test_of f) (holds_seen (invariant f) holds some_names)
    eventually (waiting f forms) holds fair = Levels.waiting (test_of f) (map test_of forms) (renamed seen_by May some_names) (holds_seen (waiting f forms) holds some_names)
    eventually (response f g bound) holds fair = λ i there. Eventually.to_eventually (λ m. test_of g (images m) ≡ true) i (
        Coming.comes seen_by May Eventually.Some Eventually.some Eventually.some_bind (test_of f) (test_of g) (number_of bound) (holds_seen (response f g bound) holds) some_names
        (λ x is k. Eventually.from_eventually (MayOrNot seen_by May x) k (justice_classically fair x is k))
        (λ x is. Eventually.compassion (May x) (EnabledAt seen_by x) (compassion_classically fair x is))
        i there
        )

    -- where each search ends, it is known of each name which case is there
    known_case : SearchesEnd → (name : TransName) → GetsCompassionByTheBooks (IsTakenAlong p state name) (IsEnabledAlong p state name) → GetsCompassion (IsTakenAlong p state name) (IsEnabledAlong p state name)
    known_case ends name owed = elim (again_or_none ends (λ k. is_enabled p (state k) name)) [
      | inl again ↦ inl (owed (λ k. let found = again k in (found.0, found.1, enabled_step p well.numbered (state found.0) name found.2)))
      | inr none ↦ inr (none.0, λ m from to. never m (none.1 m from) to)
    ]
      where
        never : (m : ℕ) → is_enabled p (state m) name ≡ false → IsEnabledAlong p state name m → ⊥
        never m off to = (let on = step_enabled p well.numbered (state m) name to.0 to.1 in cc)

    pub known_fair : SearchesEnd → IsFairSequenceByTheBooks p state → IsFairSequence p state
    known_fair ends fair = record { just = fair.just; compassionate = λ name m. known_case ends name (fair.compassionate name m) }
