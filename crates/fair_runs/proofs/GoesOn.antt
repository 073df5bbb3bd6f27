-- Every run of a program goes on for ever, and fairly: by the schedule, with all names in its queue.
use Rattle.std.proofs.Common.{◌≡◌, ℕ, suc, ◌+◌, ◌-◌, ◌≤◌, ◌⊎◌, inl, inr, List, map, length, Bool, true, false, IsTrue, arith, refl, sym, subst, ap, ◌∙◌}
use Rattle.std.specs.Prelude.{slice_get}
use Rattle.std.specs.Option.{option_map, unwrap_or}
use Rattle.std.specs.declared.option.Option.{Option}
use Rattle.std.specs.declared.option.Option.TheVariants.{Some, None}
use Rattle.std.proofs.lemmas.List.{length-map}
use Rattle.std.proofs.lemmas.Option.{slice_get_within}
use Rattle.st_form.specs.Formula.{Formula, Situation}
use Rattle.st_form.specs.declared.conditions.TransName.{TransName}
use Rattle.st_form.specs.declared.conditions.TransName.TheVariants.{Idle}
use Rattle.observations.specs.declared.Fairness.{Fairness}
use Rattle.observations.specs.declared.Fairness.TheVariants.{Just, Compassionate}
use Rattle.observations.specs.Observation.{IsJust, IsCompassionate}
use Rattle.observations.proofs.Queue.{elem, picked_enabled}
use Rattle.observations.proofs.Schedule.{Turn, chosen, turned, turn, turn_at, turn_more}
use Rattle.st_program.specs.Tree.{Processes}
use Rattle.st_program.specs.Spots.{IsNumbered}
use Rattle.spl_semantics.specs.Names.{all_names}
use Rattle.spl_semantics.specs.Runs.{State, IsFirst, Leads, Follows, place_of}
use Rattle.spl_semantics.specs.Observed.{is_enabled, enabled_names}
use Rattle.spl_semantics.proofs.EnabledNames.{enabled_step}
use Rattle.spl_semantics.proofs.NameOrder.{Named, place_at}
use Rattle.fair_computations.specs.Computations.{Computation, EnabledAt, TakenAt}
use Rattle.fair_computations.specs.Fair.{GetsJustice, IsFairByTheBooks, IsFairClassically}
use Rattle.fair_computations.proofs.Eventually.{some, some_bind, from_eventually, to_eventually}
use Rattle.fair_computations.proofs.Eventually as Eventually
use Rattle.fair_computations.proofs.Scheduled.{down, down_elem, just_turns, fair_turns}
use Rattle.fair_computations.proofs.Settling.{is_on, on_true, on_false}
use Rattle.fair_runs.specs.Programs.{GoesOnFairly}
use Rattle.fair_runs.proofs.Joined.{end_of, states, names, states_first, states_behind, names_behind, states_lead, run_is}
use Rattle.fair_runs.proofs.Places.{enabled_at}
use Rattle.fair_runs.proofs.Seen.{seen_along, is_seen}

module _ (p : Processes) (numbered : IsNumbered p) where
  -- a state to which an enabled name leads; the same state where it is not enabled
  abbrev step_at : (s : State) (name : TransName) (b : Bool) → is_enabled p s name ≡ b → State
  step_at s name true e = (enabled_step p numbered s name e).0
  step_at s name false e = s

  abbrev step_to : State → TransName → State
  step_to s name = step_at s name (is_enabled p s name) refl

  leads_at : (s : State) (name : TransName) (b : Bool) (e : is_enabled p s name ≡ b) → b ≡ true → Leads p s name (step_at s name b e)
  leads_at s name true e on = (enabled_step p numbered s name e).1
  leads_at s name false e on = cc

  abbrev name_in : Option Named → TransName
  name_in n = unwrap_or (option_map (λ n. n.0) n) Idle

  abbrev en : State → ℕ → Bool
  en s k = is_on (slice_get (enabled_names p s) k)

  abbrev next : State → ℕ → State
  next s k = step_to s (name_in (slice_get (all_names p) k))

  abbrev name_of : Option ℕ → TransName
  name_of None = Idle
  name_of (Some y) = name_in (slice_get (all_names p) y)

  abbrev turn_name : Turn State → TransName
  turn_name t = name_of (chosen en next t)

  turn_leads : (t : Turn State) → Leads p t.state (turn_name t) (turn en next t).state
  turn_leads t = go (chosen en next t) refl
    where
      go : (c : Option ℕ) → chosen en next t ≡ c → Leads p t.state (name_of c) (turned en next c t).state
      go None e = (1, (refl, refl))
      go (Some y) e =
          let r = enabled_at p t.state y (on_true (slice_get (enabled_names p t.state) y) (picked_enabled (en t.state) t.queue y e)) in
          let name : TransName = name_in (slice_get (all_names p) y) in
          leads_at t.state name (is_enabled p t.state name) refl (ap (λ z. is_enabled p t.state (name_in z)) r.1 ∙ r.2)

  turn_place : (t : Turn State) (x : ℕ) → chosen en next t ≡ Some x → place_of p (turn_name t) ≡ x
  turn_place t x e =
      let r = enabled_at p t.state x (on_true (slice_get (enabled_names p t.state) x) (picked_enabled (en t.state) t.queue x e)) in
      ap (λ c. place_of p (name_of c)) e ∙ ap (λ z. place_of p (name_in z)) r.1 ∙ place_at p numbered x r.0 r.1

  module _ (t : Turn State) where
    abbrev state_after : ℕ → State
    state_after k = (turn_at en next t k).state

    abbrev name_after : ℕ → TransName
    name_after k = turn_name (turn_at en next t k)

    after_leads : (k : ℕ) → Leads p (state_after k) (name_after k) (state_after (suc k))
    after_leads k =
        let e : turn en next (turn_at en next t k) ≡ turn_at en next t (suc k) = turn_more en next k 1 t ∙ ap (turn_at en next t) (let same : k + 1 ≡ suc k = omega arith in same) in
        subst (λ z. Leads p (state_after k) (name_after k) z.state) e (turn_leads (turn_at en next t k))

  module _ (s : State) (later : List (TransName × State)) where
    abbrev begun : Turn State
    begun = record { state = end_of p s later; queue = down (length (all_names p)) }

    abbrev whole : Computation Situation
    whole = seen_along p (states p s later (state_after begun)) (names p later (name_after begun))

    queued : (name : ℕ) (f : Fairness) → slice_get (map (λ n. n.1) (all_names p)) name ≡ Some f → IsTrue (elem name begun.queue)
    queued name f e =
        let below = slice_get_within (map (λ n. n.1) (all_names p)) name f e in
        let long = length-map (all_names p) (λ (n : Named). n.1) in
        down_elem name (length (all_names p)) (omega arith)

    queued_just : (name : ℕ) → IsJust whole.fairness name → IsTrue (elem name begun.queue)
    queued_just name (inl e) = queued name Just e
    queued_just name (inr e) = queued name Compassionate e

    taken_behind : (name m : ℕ) → chosen en next (turn_at en next begun m) ≡ Some name → TakenAt whole name (length later + m)
    taken_behind name m e = ap (place_of p) (names_behind p later (name_after begun) m) ∙ turn_place (turn_at en next begun m) name e

    disabled_behind : (name m : ℕ) → en (state_after begun m) name ≡ false → ¬ (EnabledAt whole name (length later + m))
    disabled_behind name m off = λ on. on_false (slice_get (enabled_names p (state_after begun m)) name) off (subst (λ z. slice_get (enabled_names p z) name ≡ Some true) (states_behind p s later (state_after begun) m) on)

    enabled_behind : (name k : ℕ) → length later ≤ k → EnabledAt whole name k → en (state_after begun (k - length later)) name ≡ true
    enabled_behind name k h on =
        let e : length later + (k - length later) ≡ k = omega arith in
        let there = subst (λ j. EnabledAt whole name j) (sym e) on in
        ap is_on (subst (λ z. slice_get (enabled_names p z) name ≡ Some true) (states_behind p s later (state_after begun) (k - length later)) there)

    justice : (name : ℕ) → IsJust whole.fairness name → GetsJustice (TakenAt whole name) (EnabledAt whole name)
    justice name is k =
        let found = just_turns en next name k begun (queued_just name is) in
        let h = found.1 in
        (length later + found.0, omega arith, elim found.2 [ inl taken ↦ inl (taken_behind name found.0 taken) | inr off ↦ inr (disabled_behind name found.0 off) ])

    module _ (M : Type 0 → Type 0) (pure : (A : Type 0) → A → M A) (bind : (A B : Type 0) → M A → (A → M B) → M B) where
      compassion : (name : ℕ) → IsCompassionate whole.fairness name → ((k : ℕ) → M ((m : ℕ) × (k ≤ m) × EnabledAt whole name m)) → (k : ℕ) → M ((m : ℕ) × (k ≤ m) × TakenAt whole name m)
      compassion name is again k =
          bind ((m : ℕ) × (k ≤ m) × (chosen en next (turn_at en next begun m) ≡ Some name)) ((m : ℕ) × (k ≤ m) × TakenAt whole name m)
          (fair_turns en next M pure bind name begun
          (λ j. bind ((m : ℕ) × (length later + j ≤ m) × EnabledAt whole name m) ((m : ℕ) × (j ≤ m) × (en (state_after begun m) name ≡ true)) (again (length later + j))
          (λ on. pure ((m : ℕ) × (j ≤ m) × (en (state_after begun m) name ≡ true)) (on.0 - length later, (let h = on.1 in omega arith), enabled_behind name on.0 (let h = on.1 in omega arith) on.2)))
          (queued name Compassionate is) k)
          (λ found. pure ((m : ℕ) × (k ≤ m) × TakenAt whole name m) (length later + found.0, (let h = found.1 in omega arith), taken_behind name found.0 found.2))

    fair : IsFairByTheBooks whole
    fair = record { just = justice; compassionate = compassion (λ A. A) (λ A a. a) (λ A B a f. f a) }

    fair_classically : IsFairClassically whole
    fair_classically = record {
      just = λ name is k. to_eventually (λ m. TakenAt whole name m ⊎ ¬ (EnabledAt whole name m)) k (λ none. none (justice name is k));
      compassionate = λ name is again k. to_eventually (TakenAt whole name) k (
          compassion Eventually.Some some some_bind name is
          (λ j. from_eventually (EnabledAt whole name) j (again j)) k
          );
    }

    pub goes_on : (initial : Formula) → IsFirst p initial s → Follows p s later → GoesOnFairly p initial s later
    goes_on initial is_first follows =
        let f = state_after begun in
        let g = name_after begun in
        let at_first : states p s later f 0 ≡ s = states_first p s later f refl in
        record {
          computation = whole;
          runs = record {
            state = states p s later f;
            name = names p later g;
            first = subst (IsFirst p initial) (sym at_first) is_first;
            leads = states_lead p s later f g follows refl (after_leads begun);
            fairness_is = refl;
            seen = λ k. is_seen p numbered (states p s later f k);
            name_is = λ k. refl;
          };
          begins = at_first;
          follows = run_is p s later f g refl;
          fair = fair;
          fair_classically = fair_classically;
        }
