-- Every run of a program goes on to as many consecutive rounds as are wanted.
--
-- The schedule of the observations' theorem is played by steps: a name is enabled exactly where some step has it.
use Rattle.std.proofs.Common.{◌≡◌, ℕ, zero, suc, Bool, true, false, List, [], ◌∷◌, ◌++◌, map, length, Option, Some, None, refl, sym, ap, ◌∙◌, subst, inl, inr, arith}
use Rattle.std.specs.Prelude.{◌||◌, slice_get, if◌then◌else◌}
use Rattle.std.specs.List.{list_any}
use Rattle.st_form.specs.declared.conditions.TransName.{TransName}
use Rattle.st_form.specs.declared.conditions.TransName.TheVariants.{Idle, Step}
use Rattle.observations.specs.Observation.{Moment, Observation, moment_after, name_at, last}
use Rattle.observations.specs.Rounds.{Round, Rounds}
use Rattle.observations.specs.Extension.{FollowsBy, MayGoOn, extended}
use Rattle.observations.proofs.RoundsExist.{rounds_exist}
use Rattle.st_program.specs.Tree.{Processes}
use Rattle.st_program.specs.Member.{Member, here, there}
use Rattle.st_program.specs.Spots.{IsNumbered}
use Rattle.st_program.specs.Residuals.{Rests}
use Rattle.spl_semantics.specs.Steps.{steps_of}
use Rattle.spl_semantics.specs.Going.{Act}
use Rattle.spl_semantics.specs.Names.{all_names, same_name}
use Rattle.spl_semantics.specs.Runs.{State, LeadsBy, Leads, Follows, image, place_of}
use Rattle.spl_semantics.specs.Observed.{is_enabled, enabled_names, seen, observed}
use Rattle.spl_semantics.specs.Facts.{GoesOn}
use Rattle.spl_semantics.proofs.ByCases.{behind_act, by_cases}
use Rattle.spl_semantics.proofs.NameOrder.{Named, same_name_is, place_at}
use Rattle.spl_semantics.proofs.SeenRuns.{observed_seen}

-- an observation of other states, with the same names
module _ {S T : Type 0} (f : S → T) where
  abbrev pub other_moment : Moment S → Moment T
  other_moment m = record { state = f m.state; enabled = m.enabled }

  abbrev pub other_steps : List (ℕ × Moment S) → List (ℕ × Moment T)
  other_steps [] = []
  other_steps (x ∷ later) = (x.0, other_moment x.1) ∷ other_steps later

  abbrev pub other : Observation S → Observation T
  other o = record { fairness = o.fairness; first = other_moment o.first; later = other_steps o.later }

  other_after : (m : Moment S) (later : List (ℕ × Moment S)) (k : ℕ) → (moment_after (other_moment m) (other_steps later) k).enabled ≡ (moment_after m later k).enabled
  other_after m [] k = refl
  other_after m (x ∷ later) zero = refl
  other_after m (x ∷ later) (suc k) = other_after x.1 later k

  other_name : (later : List (ℕ × Moment S)) (k : ℕ) → name_at (other_steps later) k ≡ name_at later k
  other_name [] k = refl
  other_name (x ∷ later) zero = refl
  other_name (x ∷ later) (suc k) = other_name later k

  pub other_length : (later : List (ℕ × Moment S)) → length (other_steps later) ≡ length later
  other_length [] = refl
  other_length (x ∷ later) = ap suc (other_length later)

  other_round : (o : Observation S) (k l : ℕ) → Round o k l → Round (other o) k l
  other_round o k l round = record {
    ahead = round.ahead;
    within = let h = round.within in let e = other_length o.later in omega arith;
    just = λ name j. elim (round.just name j) [
      | inl t ↦ inl (t.0, t.1, t.2, other_name o.later t.0 ∙ t.3)
      | inr d ↦ inr (d.0, d.1, d.2, λ e. d.3 (ap (λ z. slice_get z name) (sym (other_after o.first o.later d.0)) ∙ e))
    ];
    compassionate = λ name c. elim (round.compassionate name c) [
      | inl t ↦ inl (t.0, t.1, t.2, other_name o.later t.0 ∙ t.3)
      | inr n ↦ inr (λ m a b e. n m a b (ap (λ z. slice_get z name) (sym (other_after o.first o.later m)) ∙ e))
    ];
  }

  pub other_rounds : (o : Observation S) (n k l : ℕ) → Rounds o n k l → Rounds (other o) n k l
  other_rounds o zero k l e = e
  other_rounds o (suc n) k l r = (r.0, other_round o k r.0 r.1, other_rounds o n r.0 l r.2)

module _ (p : Processes) (numbered : IsNumbered p) where
  -- some step has the name, if it is enabled
  found_act : (name : TransName) (acts : List (Act Rests)) → list_any (λ a. same_name a.name name) acts ≡ true → (a : Act Rests) × Member a acts × (a.name ≡ name)
  found_act name [] e = cc
  found_act name (a ∷ acts) e = at_test (same_name a.name name) refl e (λ i. found_act name acts i)
    where
      at_test : (b : Bool) → same_name a.name name ≡ b → (b || list_any (λ a. same_name a.name name) acts) ≡ true → (list_any (λ a. same_name a.name name) acts ≡ true → (x : Act Rests) × Member x acts × (x.name ≡ name)) → (x : Act Rests) × Member x (a ∷ acts) × (x.name ≡ name)
      at_test true q e further = (a, here refl, same_name_is a.name name q)
      at_test false q e further = let r = further e in (r.0, there r.1, r.2)

  -- the state behind the first step with the name; the same state where none has it
  abbrev first_act : TransName → State → List (Act Rests) → State
  first_act name s [] = s
  first_act name s (a ∷ acts) = if same_name a.name name then behind_act a else first_act name s acts

  first_is : (name : TransName) (s : State) (acts : List (Act Rests)) → list_any (λ a. same_name a.name name) acts ≡ true → (a : Act Rests) × Member a acts × (a.name ≡ name) × (first_act name s acts ≡ behind_act a)
  first_is name s [] e = cc
  first_is name s (a ∷ acts) e = at_test (same_name a.name name) refl e (λ i. first_is name s acts i)
    where
      at_test : (b : Bool) → same_name a.name name ≡ b → (b || list_any (λ a. same_name a.name name) acts) ≡ true
          → (list_any (λ a. same_name a.name name) acts ≡ true → (x : Act Rests) × Member x acts × (x.name ≡ name) × (first_act name s acts ≡ behind_act x))
          → (x : Act Rests) × Member x (a ∷ acts) × (x.name ≡ name) × ((if b then behind_act a else first_act name s acts) ≡ behind_act x)
      at_test true q e further = (a, here refl, same_name_is a.name name q, refl)
      at_test false q e further = let r = further e in (r.0, there r.1, r.2, r.3)

  abbrev step_to : State → TransName → State
  step_to s Idle = s
  step_to s (Step o part) = first_act (Step o part) s (steps_of s.left p s.store)

  leads_to : (s : State) (name : TransName) → is_enabled p s name ≡ true → Leads p s name (step_to s name)
  leads_to s Idle e = (1, (refl, refl))
  leads_to s (Step o part) e =
      let r = first_is (Step o part) s (steps_of s.left p s.store) e in
      (r.0.mode, subst (LeadsBy p s (Step o part) r.0.mode) (sym r.3) (by_cases p numbered s o part r.0 r.1 r.2))

  -- a step by the place of its name
  abbrev Can : State → ℕ → State → Type 0
  Can s k t = (n : Named) × (slice_get (all_names p) k ≡ Some n) × Leads p s n.0 t

  abbrev name_or : Option Named → TransName
  name_or None = Idle
  name_or (Some n) = n.0

  abbrev next_by : State → ℕ → State
  next_by s k = step_to s (name_or (slice_get (all_names p) k))

  flag_of : (s : State) (names : List Named) (k : ℕ) → slice_get (map (λ n. is_enabled p s n.0) names) k ≡ Some true → (n : Named) × (slice_get names k ≡ Some n) × (is_enabled p s n.0 ≡ true)
  flag_of s [] k e = cc
  flag_of s (n ∷ names) zero e = (n, refl, cc)
  flag_of s (n ∷ names) (suc k) e = flag_of s names k e

  may_go_on : MayGoOn (enabled_names p) Can next_by 0
  may_go_on = record {
    idles = λ s. ((Idle, _), refl, (1, (refl, refl)));
    goes = λ s k e.
        let r = flag_of s (all_names p) k e in
        (r.0, r.1, subst (λ z. Leads p s r.0.0 (step_to s (name_or z))) (sym r.1) (leads_to s r.0.0 r.2));
  }

  -- a run seen whole: its states with what is enabled in them
  abbrev whole_moment : State → Moment State
  whole_moment s = record { state = s; enabled = enabled_names p s }

  abbrev whole_steps : List (TransName × State) → List (ℕ × Moment State)
  whole_steps [] = []
  whole_steps (x ∷ later) = (place_of p x.0, whole_moment x.1) ∷ whole_steps later

  abbrev whole_run : State → List (TransName × State) → Observation State
  whole_run s later = record { fairness = map (λ n. n.1) (all_names p); first = whole_moment s; later = whole_steps later }

  abbrev further : List (ℕ × Moment State) → List (TransName × State)
  further [] = []
  further (x ∷ extra) = (name_or (slice_get (all_names p) x.0), x.1.state) ∷ further extra

  -- what is played behind a run is a run again, and is seen as it was played
  played : (s : State) (extra : List (ℕ × Moment State)) → FollowsBy (enabled_names p) Can s extra → Follows p s (further extra) × (whole_steps (further extra) ≡ extra)
  played s [] h = (tt, refl)
  played s (x ∷ extra) h =
      let rest = played x.1.state extra h.2 in
      let can = h.0 in
      let name_is : name_or (slice_get (all_names p) x.0) ≡ can.0.0 = ap name_or can.1 in
      let place_is : place_of p (name_or (slice_get (all_names p) x.0)) ≡ x.0 = ap (place_of p) name_is ∙ place_at p numbered x.0 can.0 can.1 in
      let moment_is : whole_moment x.1.state ≡ x.1 = ap (λ e. record { state = x.1.state; enabled = e }) (sym h.1) in (
        (subst (λ z. Leads p s z x.1.state) (sym name_is) can.2, rest.0),
        ap (λ k. (k, whole_moment x.1.state) ∷ whole_steps (further extra)) place_is
            ∙ ap (λ m. (x.0, m) ∷ whole_steps (further extra)) moment_is
            ∙ ap (λ z. x ∷ z) rest.1,
      )

  behind_run : (s : State) (later : List (TransName × State)) (extra : List (ℕ × Moment State)) → Follows p s later → FollowsBy (enabled_names p) Can s (whole_steps later ++ extra)
      → Follows p s (later ++ further extra) × (whole_steps (later ++ further extra) ≡ whole_steps later ++ extra)
  behind_run s [] extra f h = played s extra h
  behind_run s (x ∷ later) extra f h =
      let rest = behind_run x.1 later extra f.1 h.2 in
      ((f.0, rest.0), ap (λ z. (place_of p x.0, whole_moment x.1) ∷ z) rest.1)

  -- each step of the run is one by the place of its name, where its name is in the list
  abbrev AllNamed : State → List (TransName × State) → Type 0
  AllNamed s later = (x : TransName × State) → Member x later → (n : Named) × (slice_get (all_names p) (place_of p x.0) ≡ Some n) × (n.0 ≡ x.0)

  follows_by : (s : State) (later : List (TransName × State)) → Follows p s later → AllNamed s later → FollowsBy (enabled_names p) Can s (whole_steps later)
  follows_by s [] f named = tt
  follows_by s (x ∷ later) f named =
      let n = named x (here refl) in
      ((n.0, n.1, subst (λ z. Leads p s z x.1) (sym n.2) f.0), refl, follows_by x.1 later f.1 (λ y m. named y (there m)))

  seen_steps : (later : List (TransName × State)) → other_steps (image p) (whole_steps later) ≡ map (λ step. (place_of p step.0, seen p step.1)) later
  seen_steps [] = refl
  seen_steps (x ∷ later) = ap (λ z. (place_of p x.0, seen p x.1) ∷ z) (seen_steps later)

  seen_whole : (s : State) (later : List (TransName × State)) → other (image p) (whole_run s later) ≡ observed p s later
  seen_whole s later = ap (λ z. record { fairness = map (λ n. n.1) (all_names p); first = seen p s; later = z }) (seen_steps later)

  whole_length : (later : List (TransName × State)) → length (whole_steps later) ≡ length later
  whole_length [] = refl
  whole_length (x ∷ later) = ap suc (whole_length later)

  pub goes_on : (s : State) (later : List (TransName × State)) (n : ℕ) → Follows p s later → AllNamed s later → GoesOn p s later n
  goes_on s later n f named =
      let o = whole_run s later in
      let ends = rounds_exist (enabled_names p) Can next_by 0 may_go_on o n (record { fairness = refl; first = refl; follow = follows_by s later f named }) in
      let more = further ends.extra in
      let run = behind_run s later ends.extra f ends.observed.follow in
      let same : extended o ends.extra ≡ whole_run s (later ++ more) = ap (λ z. record { fairness = o.fairness; first = o.first; later = z }) (sym run.1) in
      let long : last (whole_run s (later ++ more)) ≡ length (later ++ more) = whole_length (later ++ more) in
      let there_is : Rounds (whole_run s (later ++ more)) n ends.begin (last (whole_run s (later ++ more))) = subst (λ z. Rounds z n ends.begin (last z)) same ends.rounds in
      let counted : Rounds (whole_run s (later ++ more)) n ends.begin (length (later ++ more)) = subst (λ z. Rounds (whole_run s (later ++ more)) n ends.begin z) long there_is in
      record {
        more = more;
        follow = run.0;
        seen = observed p s (later ++ more);
        seen_of = observed_seen p numbered s (later ++ more);
        begin = ends.begin;
        behind = let h = ends.behind in let e = whole_length later in omega arith;
        rounds = subst (λ z. Rounds z n ends.begin (length (later ++ more))) (seen_whole s (later ++ more)) (other_rounds (image p) (whole_run s (later ++ more)) n ends.begin (length (later ++ more)) counted);
      }
