-- What every mode keeps and the start meets holds in all states of all runs of a program.
use Rattle.std.proofs.Common.{◌≡◌, ℕ, zero, suc, ◌+◌, Bool, true, false, ◌||◌, ◌&&◌, List, [], ◌∷◌, ◌++◌, map, refl, ap, ◌∙◌, sym, subst, arith, ℤ, pos, neg_ℤ, ◌+ℤ◌, ◌*ℤ◌}
use Rattle.std.specs.Prelude.{flat_map, int_le, take}
use Rattle.std.proofs.lemmas.Int.{ints}
use Rattle.std.proofs.Math.IntN.{zero-*ℤ}
use Rattle.st_linear.specs.Linear.{Linear, value, changed}
use Rattle.st_form.specs.Formula.{Formula, Formulas, Situation, truth_value, row, equal, bool_var, at, negation, every, some, none, more, truth, every_truth, is_zero, formulas}
use Rattle.st_form.specs.Simple.{append, opened}
use Rattle.st_form.specs.Exchange.{Exchange, is_listed}
use Rattle.st_form.specs.declared.variables.Variable.{Variable}
use Rattle.st_form.specs.declared.conditions.TransName.{TransName}
use Rattle.st_form.specs.declared.conditions.TransName.TheVariants.{Idle, Step}
use Rattle.observations.specs.Observation.{Observation, moment_after, state_at}
use Rattle.st_program.specs.Tree.{Processes, occurrence, location, action}
use Rattle.st_program.specs.Member.{Member, here, there}
use Rattle.st_program.specs.Spots.{Spot, all_spots}
use Rattle.st_program.specs.Programs.{WellFormed}
use Rattle.st_program.specs.Types.{ActionFits}
use Rattle.null_laws.specs.Bases.{Vector}
use Rattle.null_laws.proofs.Rows.{zero_product, pos_nonzero}
use Rattle.transition_system.specs.Systems.{PlainMode, PlainTransition, System}
use Rattle.spl_semantics.specs.Control.{starts}
use Rattle.spl_semantics.specs.Runs.{State, LeadsBy, Follows, IsFirst, Reached, IsRunOf, control, image, place_of}
use Rattle.spl_semantics.specs.Observed.{seen}
use Rattle.spl_semantics.specs.Runs.Reached.{first, next}
use Rattle.spl_semantics.proofs.SeenRuns.{seen_is}
use Rattle.spl_semantics.proofs.ByCases.{behind_act, listed as as_listed}
use Rattle.spl_semantics.proofs.Members.{member_none, member_left, member_right, member_cases, at_member}
use Rattle.basic_laws.proofs.Types.{either}
use Rattle.spl_semantics.proofs.Fronts.{NoDup, no_dup_split, no_dup_right, no_dups, fronts_front}
use Rattle.spl_semantics.proofs.Layouts.{layout_of, ends_of, apart_of}
use Rattle.spl_semantics.proofs.Origins.{move_of}
use Rattle.spl_semantics.proofs.ControlMoves.{reached_good, step_good, first_control}
use Rattle.spl_semantics.proofs.ControlMet.{listed, is_member}
use Rattle.spl_translation.specs.Translation.{spot_transitions, translation}
use Rattle.spl_translation.specs.Correspondence.{Corresponds}
use Rattle.spl_translation.proofs.Pairs.{paired}
use Rattle.equation_laws.specs.Sums.{presence, passage, equation_value, moved_value, first_value}
use Rattle.equation_laws.specs.Space.{equations, equations_among, places, places_among, start_forms, start_places, modes_of, variables_of, AreKept, combination, IsInductive}
use Rattle.equation_laws.proofs.Moved.{value-behind}
use Rattle.equation_laws.proofs.Totals.{total-same}
use Rattle.basic_laws.proofs.Truths.{same_bool}

-- locations in lists side by side
listed-append : (l : ℕ) (xs ys : List ℕ) → is_listed l (xs ++ ys) ≡ (is_listed l xs || is_listed l ys)
listed-append l [] ys = refl
listed-append l (x ∷ xs) ys = grind (arith, listed-append l xs ys)

presence-or : (a b : Bool) → (a ≡ true → b ≡ true → ⊥) → presence (a || b) ≡ presence a +ℤ presence b
presence-or true true h = absurd (h refl refl)
presence-or true false h = refl
presence-or false true h = refl
presence-or false false h = refl

presence-append : (l : ℕ) (xs ys : List ℕ) → NoDup (xs ++ ys) → presence (is_listed l (xs ++ ys)) ≡ presence (is_listed l xs) +ℤ presence (is_listed l ys)
presence-append l xs ys d =
    ap presence (listed-append l xs ys)
    ∙ presence-or (is_listed l xs) (is_listed l ys) (λ a b. no_dup_split xs ys l d (is_member l xs a) (is_member l ys b))

presence-segment : (l : ℕ) (xs ys zs : List ℕ) → NoDup (xs ++ (ys ++ zs)) → presence (is_listed l (xs ++ (ys ++ zs))) ≡ presence (is_listed l xs) +ℤ (presence (is_listed l ys) +ℤ presence (is_listed l zs))
presence-segment l xs ys zs d = presence-append l xs (ys ++ zs) d ∙ ap (λ z. presence (is_listed l xs) +ℤ z) (presence-append l ys zs (no_dup_right xs (ys ++ zs) d))

-- one segment is left, and another entered
presence-moved : (l : ℕ) (change : Exchange) (left from to right before after : List ℕ) → change.leaves ≡ from → change.enters ≡ to → before ≡ left ++ (from ++ right) → after ≡ left ++ (to ++ right) → NoDup before → NoDup after
    → presence (is_listed l after) ≡ presence (is_listed l before) +ℤ passage change l
presence-moved l change left from to right before after e f b a d c =
    let i = ap (λ ls. presence (is_listed l ls)) b ∙ presence-segment l left from right (subst NoDup b d) in
    let j = ap (λ ls. presence (is_listed l ls)) a ∙ presence-segment l left to right (subst NoDup a c) in
    let p = ap (λ ls. presence (is_listed l ls)) e in
    let q = ap (λ ls. presence (is_listed l ls)) f in
    omega (arith, ints, i, j, p, q)

-- what a true conjunction says of its parts
and_parts : (a b : Bool) → (a && b) ≡ true → (a ≡ true) × (b ≡ true)
and_parts true b e = (refl, e)
and_parts false b e = absurd (cc)

abbrev AreZero : (ℕ → ℤ) → List Linear → Type 0
AreZero store [] = Unit {0}
AreZero store (f ∷ fs) = (value store f ≡ pos 0) × AreZero store fs

zero-append : (store : ℕ → ℤ) (fs gs : List Linear) → AreZero store fs → AreZero store gs → AreZero store (fs ++ gs)
zero-append store [] gs h k = k
zero-append store (f ∷ fs) gs h k = (h.0, zero-append store fs gs h.1 k)

zero-take : (store : ℕ → ℤ) (k : ℕ) (fs : List Linear) → AreZero store fs → AreZero store (take k fs)
zero-take store zero fs h = tt
zero-take store (suc k) [] h = tt
zero-take store (suc k) (f ∷ fs) h = (h.0, zero-take store k fs h.1)

zero-is : (z : ℤ) → is_zero z ≡ true → z ≡ pos 0
zero-is z e = let p = and_parts (int_le z (pos 0)) (int_le (pos 0) z) e in omega (arith, ints, p.0, p.1)

mutual
  equations-zero : (s : Situation) (f : Formula) → truth s f ≡ true → AreZero s.numbers (equations f)
  equations-zero s (truth_value b) h = tt
  equations-zero s (row f) h = tt
  equations-zero s (equal f) h = (zero-is (value s.numbers f) h, tt)
  equations-zero s (bool_var v) h = tt
  equations-zero s (at l) h = tt
  equations-zero s (negation f) h = tt
  equations-zero s (every fs) h = among-zero s fs h
  equations-zero s (some fs) h = tt

  among-zero : (s : Situation) (fs : Formulas) → every_truth s fs ≡ true → AreZero s.numbers (equations_among fs)
  among-zero s none h = tt
  among-zero s (more f fs) h =
      let p = and_parts (truth s f) (every_truth s fs) h in
      zero-append s.numbers (equations f) (equations_among fs) (equations-zero s f p.0) (among-zero s fs p.1)

mutual
  places-located : (s : Situation) (l : ℕ) (f : Formula) → truth s f ≡ true → Member l (places f) → s.located l ≡ true
  places-located s l (truth_value b) h m = member_none m
  places-located s l (row f) h m = member_none m
  places-located s l (equal f) h m = member_none m
  places-located s l (bool_var v) h m = member_none m
  places-located s l (at k) h (here q) = ap s.located q ∙ h
  places-located s l (at k) h (there m) = member_none m
  places-located s l (negation f) h m = member_none m
  places-located s l (every fs) h m = among-located s l fs h m
  places-located s l (some fs) h m = member_none m

  among-located : (s : Situation) (l : ℕ) (fs : Formulas) → every_truth s fs ≡ true → Member l (places_among fs) → s.located l ≡ true
  among-located s l none h m = member_none m
  among-located s l (more f fs) h m =
      let p = and_parts (truth s f) (every_truth s fs) h in
      either (member_cases (places f) m) (λ i. places-located s l f p.0 i) (λ i. among-located s l fs p.1 i)

starts-placed : (l : ℕ) (ls : List ℕ) (gs : Formulas) → Member l ls → Member l (places_among (append (formulas (map (λ l. at l) ls)) gs))
starts-placed l [] gs m = member_none m
starts-placed l (k ∷ ls) gs (here q) = here q
starts-placed l (k ∷ ls) gs (there m) = there (starts-placed l ls gs m)

combination-zero : (factors : ℕ → ℤ) (k : ℕ) (fs : List Linear) (store : ℕ → ℤ) → AreZero store fs → combination factors k fs store ≡ pos 0
combination-zero factors k [] store h = refl
combination-zero factors k (f ∷ fs) store h = omega (arith, ints, ap (λ z. z *ℤ factors k) h.0, zero-*ℤ (factors k), combination-zero factors (k + 1) fs store h.1)

kept-mode : (n locations : ℕ) (x : Vector) (ms : List PlainMode) (m : PlainMode) → Member m ms → AreKept n locations x ms → (store : ℕ → ℤ) → moved_value n locations x m.change store ≡ pos 0
kept-mode n locations x [] m i k store = member_none i
kept-mode n locations x (d ∷ ms) m (here q) k store = ap (λ (m : PlainMode). moved_value n locations x m.change store) q ∙ k.0 store
kept-mode n locations x (d ∷ ms) m (there i) k store = kept-mode n locations x ms m i k.1 store

-- modes among all modes
in-modes : (t : PlainTransition) (m : PlainMode) (ts : List PlainTransition) → Member t ts → Member m t.modes → Member m (flat_map (λ t. t.modes) ts)
in-modes t m [] i j = member_none i
in-modes t m (u ∷ ts) (here q) j = member_left (flat_map (λ t. t.modes) ts) (subst (λ (t : PlainTransition). Member m t.modes) q j)
in-modes t m (u ∷ ts) (there i) j = member_right u.modes (in-modes t m ts i j)

in-transitions : (y : Spot) (t : PlainTransition) (ys : List Spot) → Member y ys → Member t (spot_transitions y) → Member t (flat_map spot_transitions ys)
in-transitions y t [] i j = member_none i
in-transitions y t (z ∷ ys) (here q) j = member_left (flat_map spot_transitions ys) (subst (λ z. Member t (spot_transitions z)) q j)
in-transitions y t (z ∷ ys) (there i) j = member_right (spot_transitions z) (in-transitions y t ys i j)

module _ (vs : List Variable) (initial : Formula) (p : Processes) (locations : ℕ) (well : WellFormed p)
    (typed : (y : Spot) → Member y (all_spots p) → ActionFits vs (action y.stmt)) (both : Corresponds p initial (translation vs initial p locations))
    (x : Vector) (inductive : IsInductive (translation vs initial p locations) x) where
  abbrev system : System
  system = translation vs initial p locations

  abbrev n : ℕ
  n = variables_of system

  abbrev worth_at : Situation → ℤ
  worth_at s = equation_value n locations x s

  step-keeps : (s t : State) (name : TransName) (mode : ℕ) → Reached p initial s → LeadsBy p s name mode t → worth_at (image p t) ≡ worth_at (image p s)
  step-keeps s t Idle mode r l = ap (λ s. worth_at (image p s)) l.0
  step-keeps s t (Step o part) mode r l =
      let a = as_listed p well.numbered s t o part mode l in
      let layout = layout_of p well in
      let ends = ends_of p well in
      let apart = apart_of p well in
      let good = reached_good p layout ends apart initial r in
      let land = step_good p layout ends apart s a.0 good a.1 in
      let m = land.moved in
      let y = move_of m.move (all_spots p) m.is_in in
      let z = y.0 in
      let d = (paired vs (action z.stmt) (occurrence z.stmt) (location z.stmt) z.next (typed z y.1)).mode_of m.move y.2 in
      let is_mode : Member d.mode (modes_of system) =
      in-modes d.transition d.mode system.transitions (there (in-transitions z d.transition (all_spots p) y.1 d.is_in)) (at_member d.mode d.transition.modes d.place d.placed) in
      let kept = kept-mode n locations x (modes_of system) d.mode is_mode inductive.kept s.store.numbers in
      let before = sym (fronts_front p layout ends s.left p 0 good) ∙ m.before_is in
      let after = sym (fronts_front p layout ends a.0.left p 0 land.fits) ∙ m.after_is in
      let once = subst NoDup (fronts_front p layout ends s.left p 0 good) (no_dups p layout ends s.left p 0 0 (λ y m. m) ends.spans_outer good) in
      let once_after = subst NoDup (fronts_front p layout ends a.0.left p 0 land.fits) (no_dups p layout ends a.0.left p 0 0 (λ y m. m) ends.spans_outer land.fits) in
      let behind = value-behind n locations x d.mode.change (image p s) (image p (behind_act a.0))
      (λ v. ap (λ z. z.numbers v) m.store_is ∙ sym (d.matches.numbers_is s.store m.allowed v))
      (λ k. presence-moved k d.mode.change m.left m.move.from m.move.to m.right (control p s) (control p (behind_act a.0)) d.matches.leaves_is d.matches.enters_is before after once once_after) in
      ap (λ s. worth_at (image p s)) a.4 ∙ omega (arith, ints, behind, kept)

  run-keeps : (s : State) (later : List (TransName × State)) (k : ℕ) → Reached p initial s → Follows p s later
      → worth_at (moment_after (seen p s) (map (λ step. (place_of p step.0, seen p step.1)) later) k).state ≡ worth_at (image p s)
  run-keeps s [] k r f = refl
  run-keeps s (step ∷ later) zero r f = refl
  run-keeps s (step ∷ later) (suc k) r f = run-keeps step.1 later k (next step.0 r f.0) f.1 ∙ step-keeps s step.1 step.0 f.0.0 r f.0.1

  first-located : (s : State) → IsFirst p initial s → (l : ℕ) → (image p s).located l ≡ is_listed l (start_places system)
  first-located s f l =
      same_bool _ _
      (λ e. listed l (start_places system) (starts-placed l (starts p) (opened initial) (subst (Member l) (first_control p well s f.begins) (is_member l (control p s) e))))
      (λ e. places-located (image p s) l system.initial (both.begins s f) (is_member l (start_places system) e))

  first-zero : (s : State) → IsFirst p initial s → worth_at (image p s) ≡ pos 0
  first-zero s f =
      let b = inductive.starts in
      let zeros = zero-take s.store.numbers 256 (equations system.initial) (equations-zero (image p s) system.initial (both.begins s f)) in
      let same = total-same (λ l. x (n + l) *ℤ presence ((image p s).located l)) (λ l. x (n + l) *ℤ presence (is_listed l (start_places system))) locations 0
      (λ l i j. ap (λ b. x (n + l) *ℤ presence b) (first-located s f l)) in
      let e = zero_product (first_value n locations (start_places system) x s.store.numbers) (pos b.times) (pos_nonzero b.times b.positive)
      (b.combines s.store.numbers ∙ combination-zero b.factors 0 (start_forms system) s.store.numbers zeros) in
      omega (arith, ints, same, e)

  pub holds-along : (o : Observation Situation) → IsRunOf p initial o → (k : ℕ) → worth_at (state_at o k) ≡ pos 0
  holds-along o run k =
      subst (λ o. worth_at (state_at o k) ≡ pos 0) (sym (seen_is p well.numbered run.state run.later o run.seen))
      (run-keeps run.state run.later k (first run.first) run.follow ∙ first-zero run.state run.first)
