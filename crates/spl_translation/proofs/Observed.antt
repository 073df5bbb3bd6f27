-- The observation of a run of a program is that of a run of its translation, and the other way round.
use Rattle.std.proofs.Common.{◌≡◌, ℕ, zero, suc, Bool, true, false, List, [], ◌∷◌, map, Some, refl, sym, ap, ◌∙◌, subst}
use Rattle.std.specs.Prelude.{◌||◌, slice_get}
use Rattle.std.specs.List.{list_any}
use Rattle.st_form.specs.Formula.{Formula, Situation}
use Rattle.st_form.specs.declared.conditions.TransName.{TransName}
use Rattle.st_form.specs.declared.conditions.TransName.TheVariants.{Idle, Step}
use Rattle.observations.specs.Observation.{Moment, Observation}
use Rattle.observations.specs.Extension.{FollowsBy}
use Rattle.transition_system.specs.Systems.{PlainTransition, System}
use Rattle.transition_system.specs.Meaning.{can_go, gone, is_enabled as can_be_taken, enabled_in, Goes, IsRun}
use Rattle.st_program.specs.Tree.{Processes}
use Rattle.st_program.specs.Member.{Member, here, there}
use Rattle.st_program.specs.Spots.{IsNumbered}
use Rattle.spl_semantics.specs.Steps.{steps_of}
use Rattle.spl_semantics.specs.Names.{all_names, same_name}
use Rattle.spl_semantics.specs.Runs.{State, LeadsBy, Follows, IsFirst, Reached, first, next, image, place_of, IsSeenOf, IsRunOf}
use Rattle.spl_semantics.specs.Observed.{is_enabled, enabled_names, seen, observed}
use Rattle.spl_semantics.proofs.ByCases.{behind_act, listed, by_cases}
use Rattle.spl_semantics.proofs.Members.{member_none, at_member}
use Rattle.spl_semantics.proofs.SeenRuns.{seen_is, observed_seen}
use Rattle.spl_semantics.proofs.NameOrder.{Named, name_same, same_name_is, place_at}
use Rattle.spl_translation.specs.Correspondence.{Corresponds}
use Rattle.basic_laws.proofs.Truths.{same_bool}

-- a test that some element passes, and the element
some_passes : {X : Type 0} (test : X → Bool) (xs : List X) → list_any test xs ≡ true → (k : ℕ) × (x : X) × (slice_get xs k ≡ Some x) × (test x ≡ true)
some_passes test [] e = cc
some_passes test (x ∷ xs) e = at_test (test x) refl e (λ i. some_passes test xs i)
  where
    at_test : (b : Bool) → test x ≡ b → (b || list_any test xs) ≡ true → (list_any test xs ≡ true → (k : ℕ) × (y : _) × (slice_get xs k ≡ Some y) × (test y ≡ true)) → (k : ℕ) × (y : _) × (slice_get (x ∷ xs) k ≡ Some y) × (test y ≡ true)
    at_test true q e down = (0, x, refl, q)
    at_test false q e down = let r = down e in (suc r.0, r.1, r.2, r.3)

passes_some : {X : Type 0} (test : X → Bool) (xs : List X) (x : X) → Member x xs → test x ≡ true → list_any test xs ≡ true
passes_some test [] x m e = member_none m
passes_some test (y ∷ xs) x (here q) e = let f : test y ≡ true = ap test (sym q) ∙ e in rw f refl
passes_some test (y ∷ xs) x (there m) e = at_test (test y) (passes_some test xs x m e)
  where
    at_test : (b : Bool) → list_any test xs ≡ true → (b || list_any test xs) ≡ true
    at_test true i = refl
    at_test false i = i

abbrev named : PlainTransition → Named
named t = (t.name, t.fairness)

mapped_at : (ts : List PlainTransition) (k : ℕ) (t : PlainTransition) → slice_get ts k ≡ Some t → slice_get (map named ts) k ≡ Some (named t)
mapped_at [] k t q = cc
mapped_at (u ∷ ts) zero t q = let e : u ≡ t = cc in ap (λ z. Some (named z)) e
mapped_at (u ∷ ts) (suc k) t q = mapped_at ts k t q

map-same : (f g : PlainTransition → Bool) (ts : List PlainTransition) → ((t : PlainTransition) → Member t ts → f t ≡ g t) → map f ts ≡ map g ts
map-same f g [] h = refl
map-same f g (t ∷ ts) h = ap (λ z. z ∷ map f ts) (h t (here refl)) ∙ ap (λ z. g t ∷ z) (map-same f g ts (λ u m. h u (there m)))

map-named : (f : TransName → Bool) (ts : List PlainTransition) → map (λ n. f n.0) (map named ts) ≡ map (λ t. f t.name) ts
map-named f [] = refl
map-named f (t ∷ ts) = ap (λ z. f t.name ∷ z) (map-named f ts)

map-fairness : (ts : List PlainTransition) → map (λ n. n.1) (map named ts) ≡ map (λ t. t.fairness) ts
map-fairness [] = refl
map-fairness (t ∷ ts) = ap (λ z. t.fairness ∷ z) (map-fairness ts)

module _ (p : Processes) (initial : Formula) (numbered : IsNumbered p) (system : System) (both : Corresponds p initial system) where
  enabled_by : (s t : State) (name : TransName) (mode : ℕ) → LeadsBy p s name mode t → is_enabled p s name ≡ true
  enabled_by s t Idle mode l = refl
  enabled_by s t (Step o part) mode l =
      let a = listed p numbered s t o part mode l in
      passes_some (λ a. same_name a.name (Step o part)) (steps_of s.left p s.store) a.0 a.1 (ap (λ z. same_name z (Step o part)) a.2 ∙ name_same (Step o part))

  leads_if : (s : State) (name : TransName) → is_enabled p s name ≡ true → (mode : ℕ) × (t : State) × LeadsBy p s name mode t
  leads_if s Idle e = (1, s, (refl, refl))
  leads_if s (Step o part) e =
      let r = some_passes (λ a. same_name a.name (Step o part)) (steps_of s.left p s.store) e in
      (r.1.mode, behind_act r.1, by_cases p numbered s o part r.1 (at_member r.1 (steps_of s.left p s.store) r.0 r.2) (same_name_is r.1.name (Step o part) r.3))

  -- the number of a transition is the place of its name
  number_is : (k : ℕ) (t : PlainTransition) → slice_get system.transitions k ≡ Some t → place_of p t.name ≡ k
  number_is k t q = place_at p numbered k (named t) (subst (λ z. slice_get z k ≡ Some (named t)) both.names (mapped_at system.transitions k t q))

  same_transition : (j k : ℕ) (t u : PlainTransition) → slice_get system.transitions j ≡ Some t → slice_get system.transitions k ≡ Some u → t.name ≡ u.name → t ≡ u
  same_transition j k t u q r e =
      let places : j ≡ k = sym (number_is j t q) ∙ ap (place_of p) e ∙ number_is k u r in
      let f : Some t ≡ Some u = sym q ∙ ap (slice_get system.transitions) places ∙ r in
      cc

  place : (t : PlainTransition) (ts : List PlainTransition) → Member t ts → (k : ℕ) × (slice_get ts k ≡ Some t)
  place t [] m = member_none m
  place t (u ∷ ts) (here q) = (0, ap Some (sym q))
  place t (u ∷ ts) (there m) = let r = place t ts m in (suc r.0, r.1)

  -- a transition is enabled where its name is
  same_enabled : (s : State) → Reached p initial s → (t : PlainTransition) → Member t system.transitions → can_be_taken t (image p s) ≡ is_enabled p s t.name
  same_enabled s r t m = same_bool _ _ forth back
    where
      forth : can_be_taken t (image p s) ≡ true → is_enabled p s t.name ≡ true
      forth e =
          let k = place t system.transitions m in
          let d = some_passes (λ d. can_go d (image p s)) t.modes e in
          let u = both.follows_back s t.name (suc d.0) (gone d.1 (image p s)) r record {
            number = k.0;
            step = record { transition = t; numbered = k.1; mode = d.1; place = d.0; placed = d.2; goes = d.3; leads = refl };
            named = refl;
            moded = refl;
          } in
          enabled_by s u.0 t.name (suc d.0) u.1

      back : is_enabled p s t.name ≡ true → can_be_taken t (image p s) ≡ true
      back e =
          let l = leads_if s t.name e in
          let g = both.follows s l.1 t.name l.0 r l.2 in
          let k = place t system.transitions m in
          let same : g.step.transition ≡ t = same_transition g.number k.0 g.step.transition t g.step.numbered k.1 g.named in
          ap (λ z. can_be_taken z (image p s)) (sym same)
          ∙ passes_some (λ d. can_go d (image p s)) g.step.transition.modes g.step.mode (at_member g.step.mode g.step.transition.modes g.step.place g.step.placed) g.step.goes

  all_enabled : (s : State) → Reached p initial s → enabled_names p s ≡ enabled_in system (image p s)
  all_enabled s r =
      ap (map (λ n. is_enabled p s n.0)) (sym both.names)
      ∙ map-named (is_enabled p s) system.transitions
      ∙ sym (map-same (λ t. can_be_taken t (image p s)) (λ t. is_enabled p s t.name) system.transitions (same_enabled s r))

  goes_on : (s : State) (later : List (TransName × State)) → Reached p initial s → Follows p s later → FollowsBy (enabled_in system) (Goes system) (image p s) (map (λ step. (place_of p step.0, seen p step.1)) later)
  goes_on s [] r f = tt
  goes_on s (x ∷ later) r f =
      let l = f.0 in
      let g = both.follows s x.1 x.0 l.0 r l.1 in
      let number : g.number ≡ place_of p x.0 = sym (number_is g.number g.step.transition g.step.numbered) ∙ ap (place_of p) g.named in
      let further = next x.0 r f.0 in
      (subst (λ z. Goes system (image p s) z (image p x.1)) number g.step, all_enabled x.1 further, goes_on x.1 later further f.1)

  seen_run : (s : State) (later : List (TransName × State)) → IsFirst p initial s → Follows p s later → IsRun system (observed p s later)
  seen_run s later is_first f = record {
    initial = both.begins s is_first;
    observed = record {
      fairness = ap (map (λ n. n.1)) (sym both.names) ∙ map-fairness system.transitions;
      first = all_enabled s (first is_first);
      follow = goes_on s later (first is_first) f;
    };
  }

  pub run_seen : (o : Observation Situation) → IsRunOf p initial o → IsRun system o
  run_seen o run = subst (IsRun system) (sym (seen_is p numbered run.state run.later o run.seen)) (seen_run run.state run.later run.first run.follow)

  -- the other way round: each step of the system from an image is the image of a step of the program
  abbrev ComesFrom : State → List (ℕ × Moment Situation) → Type 0
  ComesFrom s steps = (later : List (TransName × State)) × Follows p s later × (steps ≡ map (λ step. (place_of p step.0, seen p step.1)) later)

  comes_from : (s : State) (steps : List (ℕ × Moment Situation)) → Reached p initial s → FollowsBy (enabled_in system) (Goes system) (image p s) steps → ComesFrom s steps
  comes_from s [] r f = ([], tt, refl)
  comes_from s (x ∷ steps) r f =
      let g = f.0 in
      let name = g.transition.name in
      let step = both.follows_back s name (suc g.place) x.1.state r record { number = x.0; step = g; named = refl; moded = refl } in
      let reached = next name r (suc g.place, step.1) in
      let rest = comes_from step.0 steps reached (subst (λ t. FollowsBy (enabled_in system) (Goes system) t steps) (sym step.2) f.2) in
      let place_is : x.0 ≡ place_of p name = sym (number_is x.0 g.transition g.numbered) in
      let moment_is : x.1 ≡ seen p step.0 =
      ap (λ e. record { state = x.1.state; enabled = e }) f.1
      ∙ ap (λ t. record { state = t; enabled = enabled_in system t }) (sym step.2)
      ∙ ap (λ e. record { state = image p step.0; enabled = e }) (sym (all_enabled step.0 reached)) in (
        (name, step.0) ∷ rest.0,
        ((suc g.place, step.1), rest.1),
        ap (λ k. (k, x.1) ∷ steps) place_is ∙ ap (λ m. (place_of p name, m) ∷ steps) moment_is ∙ ap (λ l. (place_of p name, seen p step.0) ∷ l) rest.2,
      )

  pub run_back : (o : Observation Situation) → IsRun system o → (s : State) → IsFirst p initial s → o.first.state ≡ image p s → IsRunOf p initial o
  run_back o run s is_first begins =
      let back = comes_from s o.later (first is_first) (subst (λ t. FollowsBy (enabled_in system) (Goes system) t o.later) begins run.observed.follow) in
      let moment_is : o.first ≡ seen p s =
      ap (λ e. record { state = o.first.state; enabled = e }) run.observed.first
      ∙ ap (λ t. record { state = t; enabled = enabled_in system t }) begins
      ∙ ap (λ e. record { state = image p s; enabled = e }) (sym (all_enabled s (first is_first))) in
      let fairness_is : o.fairness ≡ map (λ n. n.1) (all_names p) =
      run.observed.fairness ∙ sym (map-fairness system.transitions) ∙ ap (map (λ n. n.1)) both.names in
      let same : o ≡ observed p s back.0 =
      ap (λ f. record { fairness = f; first = o.first; later = o.later }) fairness_is
      ∙ ap (λ m. record { fairness = map (λ n. n.1) (all_names p); first = m; later = o.later }) moment_is
      ∙ ap (λ l. record { fairness = map (λ n. n.1) (all_names p); first = seen p s; later = l }) back.2 in
      record { state = s; later = back.0; first = is_first; follow = back.1; seen = subst (IsSeenOf p s back.0) (sym same) (observed_seen p numbered s back.0) }
