-- A typed program corresponds to its translation.
use Rattle.std.proofs.Common.{cond, ◌≡◌, ℕ, zero, suc, Bool, true, false, List, [], ◌∷◌, ◌++◌, map, Some, refl, sym, ap, ◌∙◌, subst, ◌⊎◌, inl, inr}
use Rattle.std.specs.Prelude.{◌&&◌, ◌||◌, not, slice_get, flat_map, filter}
use Rattle.std.specs.List.{list_all}
use Rattle.st_linear.specs.Linear.{changed}
use Rattle.st_form.specs.Formula.{Formula, Formulas, Situation, truth_value, row, equal, bool_var, at, negation, every, some, none, more, every_truth}
use Rattle.st_form.specs.Formula as formulas
use Rattle.st_form.specs.Simple.{opened, append}
use Rattle.st_form.specs.Exchange.{truth_for, is_listed}
use Rattle.st_form.specs.declared.conditions.Part.{Part}
use Rattle.st_form.specs.declared.conditions.TransName.{TransName}
use Rattle.st_form.specs.declared.conditions.TransName.TheVariants.{Idle, Step}
use Rattle.observations.specs.declared.Fairness.{Fairness}
use Rattle.observations.specs.declared.Fairness.TheVariants.{Unfair}
use Rattle.transition_system.specs.Systems.{PlainMode, PlainTransition, System}
use Rattle.transition_system.specs.Meaning.{can_go, gone, Goes}
use Rattle.st_form.specs.declared.variables.Variable.{Variable}
use Rattle.st_program.specs.Tree.{Action, skip, critical, noncritical, assign, await, request, release, if_then, if_else, while_do, block, select, cooperate, group, Processes, occurrence, location, action}
use Rattle.st_program.specs.Member.{Member, here, there}
use Rattle.st_program.specs.Spots.{Spot, all_spots}
use Rattle.st_program.specs.Programs.{WellFormed}
use Rattle.st_program.specs.Types.{TestFits, ActionFits}
use Rattle.spl_semantics.specs.Stores.{Store, situation}
use Rattle.st_program.specs.Residuals.{Rests}
use Rattle.spl_semantics.specs.Steps.{steps_of}
use Rattle.spl_semantics.specs.Going.{Act}
use Rattle.spl_semantics.specs.Names.{own_names}
use Rattle.spl_semantics.specs.Control.{starts}
use Rattle.spl_semantics.proofs.TextMoves.{Move}
use Rattle.spl_semantics.proofs.Moving.{Moves}
use Rattle.spl_semantics.specs.Runs.{State, LeadsBy, IsFirst, Reached, control, image}
use Rattle.spl_semantics.proofs.ByCases.{behind_act, listed as as_listed, by_cases}
use Rattle.spl_semantics.proofs.Members.{member_none, member_left, member_right, member_cases, member_at, at_member}
use Rattle.basic_laws.proofs.Types.{either}
use Rattle.spl_semantics.proofs.Follows.{move_in}
use Rattle.spl_semantics.proofs.Origins.{move_of, own_name}
use Rattle.spl_semantics.proofs.ControlMoves.{control_moves, first_control}
use Rattle.spl_semantics.proofs.ControlMet.{listed, is_member}
use Rattle.spl_translation.specs.Translation.{passing, always, own_transitions, spot_transitions, idling, translation}
use Rattle.spl_translation.specs.Correspondence.{GoesBy, Corresponds}
use Rattle.spl_translation.proofs.Values.{blind}
use Rattle.spl_translation.proofs.Pairs.{Matches, paired}
use Rattle.basic_laws.proofs.Truths.{same_bool}

-- names with their fairness, in order
abbrev named : PlainTransition → TransName × Fairness
named t = (t.name, t.fairness)

own_named : (a : Action) (o l next : ℕ) → map named (own_transitions a o l next) ≡ own_names a o
own_named skip o l next = refl
own_named critical o l next = refl
own_named noncritical o l next = refl
own_named (assign xs) o l next = refl
own_named (await t) o l next = refl
own_named (request v) o l next = refl
own_named (release v) o l next = refl
own_named (if_then t y) o l next = refl
own_named (if_else t y n) o l next = refl
own_named (while_do t b) o l next = refl
own_named (block ss) o l next = refl
own_named (select ss) o l next = refl
own_named (cooperate ps) o l next = refl
own_named (group xs) o l next = refl

map-both : (xs ys : List PlainTransition) → map named (xs ++ ys) ≡ map named xs ++ map named ys
map-both [] ys = refl
map-both (x ∷ xs) ys = ap (λ z. named x ∷ z) (map-both xs ys)

all_named : (xs : List Spot) → map named (flat_map spot_transitions xs) ≡ flat_map (λ x. own_names (action x.stmt) (occurrence x.stmt)) xs
all_named [] = refl
all_named (x ∷ xs) =
    map-both (spot_transitions x) (flat_map spot_transitions xs)
    ∙ ap (λ z. z ++ map named (flat_map spot_transitions xs)) (own_named (action x.stmt) (occurrence x.stmt) (location x.stmt) x.next)
    ∙ ap (λ z. own_names (action x.stmt) (occurrence x.stmt) ++ z) (all_named xs)

-- the initial form
with_true : (b : Bool) → (b && true) ≡ b
with_true true = refl
with_true false = refl

append_truth : (s : Situation) (fs gs : Formulas) → every_truth s (append fs gs) ≡ (every_truth s fs && every_truth s gs)
append_truth s none gs = refl
append_truth s (more f fs) gs = ap (λ z. formulas.truth s f && z) (append_truth s fs gs) ∙ regroup (formulas.truth s f) (every_truth s fs) (every_truth s gs)
  where
    regroup : (a b c : Bool) → (a && (b && c)) ≡ ((a && b) && c)
    regroup true b c = refl
    regroup false b c = refl

opened_truth : (s : Situation) (f : Formula) → every_truth s (opened f) ≡ formulas.truth s f
opened_truth s (every fs) = refl
opened_truth s (truth_value b) = with_true b
opened_truth s (row f) = with_true _
opened_truth s (equal f) = with_true _
opened_truth s (bool_var v) = with_true _
opened_truth s (at l) = with_true _
opened_truth s (negation f) = with_true _
opened_truth s (some fs) = with_true _

located_truth : (s : Situation) (ls : List ℕ) → ((l : ℕ) → Member l ls → s.located l ≡ true) → every_truth s (formulas.formulas (map (λ l. at l) ls)) ≡ true
located_truth s [] h = refl
located_truth s (l ∷ ls) h = let e = h l (here refl) in let rest = located_truth s ls (λ k m. h k (there m)) in rw (e, rest) refl

or_parts : (a b : Bool) → (a || b) ≡ true → (a ≡ true) ⊎ (b ≡ true)
or_parts true b e = inl refl
or_parts false b e = inr e

or_from : (a b : Bool) → b ≡ true → (a || b) ≡ true
or_from true b e = refl
or_from false b e = e

and_from : (a b : Bool) → a ≡ true → b ≡ true → (a && b) ≡ true
and_from true b e f = f
and_from false b e f = cc

and_parts : (a b : Bool) → (a && b) ≡ true → (a ≡ true) × (b ≡ true)
and_parts true b e = (refl, e)
and_parts false b e = cc

not_listed : (l : ℕ) (ls : List ℕ) → (Member l ls → ⊥) → not (is_listed l ls) ≡ true
not_listed l ls d = at_test (is_listed l ls) refl
  where
    at_test : (b : Bool) → is_listed l ls ≡ b → not b ≡ true
    at_test true e = absurd (d (is_member l ls e))
    at_test false e = refl

listed_not : (l : ℕ) (ls : List ℕ) → not (is_listed l ls) ≡ true → Member l ls → ⊥
listed_not l ls e m = let f : is_listed l ls ≡ true = listed l ls m in cc

-- where control is behind a move
located_behind : (m : Move) (d : PlainMode) (from to : List ℕ) (s s' : Store) → Matches m d → Moves m from s to s' → (l : ℕ)
    → is_listed l to ≡ (is_listed l d.change.enters || (not (is_listed l d.change.leaves) && is_listed l from))
located_behind m d from to s s' same moves l = same_bool _ _ forth back
  where
    forth : is_listed l to ≡ true → (is_listed l d.change.enters || (not (is_listed l d.change.leaves) && is_listed l from)) ≡ true
    forth e = either (moves.stays l (is_member l to e))
        (λ k. or_from (is_listed l d.change.enters) (not (is_listed l d.change.leaves) && is_listed l from)
        (and_from (not (is_listed l d.change.leaves)) (is_listed l from) (not_listed l d.change.leaves (λ i. k.1 (subst (Member l) same.leaves_is i))) (listed l from k.0)))
        (λ k. rw (listed l d.change.enters (subst (Member l) (sym same.enters_is) k)) refl)

    back : (is_listed l d.change.enters || (not (is_listed l d.change.leaves) && is_listed l from)) ≡ true → is_listed l to ≡ true
    back e = either (or_parts _ _ e)
        (λ k. listed l to (moves.enters l (subst (Member l) same.enters_is (is_member l d.change.enters k))))
        (λ k. let both = and_parts _ _ k in
        listed l to (moves.kept l (is_member l from both.1) (λ i. listed_not l d.change.leaves both.0 (subst (Member l) (sym same.leaves_is) i))))

-- the image behind a move is what the mode leads to
image_behind : (m : Move) (d : PlainMode) (from to : List ℕ) (s s' : Store) → Matches m d → Moves m from s to s'
    → situation s' (λ l. is_listed l to) ≡ gone d (situation s (λ l. is_listed l from))
image_behind m d from to s s' same moves =
    let numbers : (v : ℕ) → s'.numbers v ≡ changed s.numbers d.change.numbers v = λ v. ap (λ z. z.numbers v) moves.store_is ∙ sym (same.numbers_is s moves.allowed v) in
    let truths : (v : ℕ) → s'.truths v ≡ formulas.truth (situation s (λ l. is_listed l from)) (truth_for v d.change.truths) = λ v. ap (λ z. z.truths v) moves.store_is ∙ sym (same.truths_is s (λ l. is_listed l from) moves.allowed v) in
    let located = located_behind m d from to s s' same moves in
    λ i. record { numbers = λ v. numbers v i; truths = λ v. truths v i; located = λ l. located l i }

all_listed : (ls from : List ℕ) → ((l : ℕ) → Member l ls → Member l from) → list_all (λ l. is_listed l from) ls ≡ true
all_listed [] from h = refl
all_listed (l ∷ ls) from h = let e : is_listed l from ≡ true = listed l from (h l (here refl)) in rw e (all_listed ls from (λ k m. h k (there m)))

listed_all : (ls from : List ℕ) → list_all (λ l. is_listed l from) ls ≡ true → (l : ℕ) → Member l ls → Member l from
listed_all [] from e l m = member_none m
listed_all (k ∷ ls) from e l (here q) = let both = and_parts (is_listed k from) _ e in subst (λ z. Member z from) (sym q) (is_member k from both.0)
listed_all (k ∷ ls) from e l (there m) = let both = and_parts (is_listed k from) _ e in listed_all ls from both.1 l m

-- a move that is allowed where control is can be taken as a mode, and the other way round
goes_of : (m : Move) (d : PlainMode) (from to : List ℕ) (s s' : Store) → Matches m d → Moves m from s to s' → can_go d (situation s (λ l. is_listed l from)) ≡ true
goes_of m d from to s s' same moves =
    let there_is = all_listed d.at from (λ l i. moves.in_place l (subst (Member l) same.at_is i)) in
    rw there_is (same.guard_is s (λ l. is_listed l from) ∙ moves.allowed)

-- where the move leads
abbrev left_over : List ℕ → List ℕ → List ℕ
left_over from leaves = filter (λ l. not (is_listed l leaves)) from

in_left : (l : ℕ) (from leaves : List ℕ) → Member l from → not (is_listed l leaves) ≡ true → Member l (left_over from leaves)
in_left l [] leaves m e = member_none m
in_left l (k ∷ from) leaves (here q) e =
    let f : not (is_listed k leaves) ≡ true = subst (λ z. not (is_listed z leaves) ≡ true) q e in
    subst (λ b. Member l (cond b (k ∷ left_over from leaves) (left_over from leaves))) (sym f) (here q)
in_left l (k ∷ from) leaves (there m) e = at_test (not (is_listed k leaves)) (in_left l from leaves m e)
  where
    at_test : (b : Bool) → Member l (left_over from leaves) → Member l (cond b (k ∷ left_over from leaves) (left_over from leaves))
    at_test true i = there i
    at_test false i = i

of_left : (l : ℕ) (from leaves : List ℕ) → Member l (left_over from leaves) → Member l from × (not (is_listed l leaves) ≡ true)
of_left l [] leaves m = member_none m
of_left l (k ∷ from) leaves m = at_test (not (is_listed k leaves)) refl m (λ i. of_left l from leaves i)
  where
    at_test : (b : Bool) → not (is_listed k leaves) ≡ b → Member l (cond b (k ∷ left_over from leaves) (left_over from leaves)) → (Member l (left_over from leaves) → Member l from × (not (is_listed l leaves) ≡ true)) → Member l (k ∷ from) × (not (is_listed l leaves) ≡ true)
    at_test true e (here q) down = (here q, subst (λ z. not (is_listed z leaves) ≡ true) (sym q) e)
    at_test true e (there i) down = let r = down i in (there r.0, r.1)
    at_test false e i down = let r = down i in (there r.0, r.1)

moves_of : (m : Move) (d : PlainMode) (from : List ℕ) (s : Store) → Matches m d → can_go d (situation s (λ l. is_listed l from)) ≡ true → Moves m from s (left_over from m.from ++ m.to) (m.result s)
moves_of m d from s same e =
    let both = and_parts _ _ e in
    record {
      in_place = λ l i. listed_all d.at from both.0 l (subst (Member l) (sym same.at_is) i);
      allowed = sym (same.guard_is s (λ l. is_listed l from)) ∙ both.1;
      store_is = refl;
      stays = λ l i. either (member_cases (left_over from m.from) i)
          (λ i. let r = of_left l from m.from i in inl (r.0, listed_not l m.from r.1))
          (λ i. inr i);
      kept = λ l i out. member_left _ (in_left l from m.from i (not_listed l m.from out));
      enters = λ l i. member_right (left_over from m.from) i;
    }

-- transitions in the list of all
in_flat : (x : Spot) (t : PlainTransition) (xs : List Spot) → Member x xs → Member t (spot_transitions x) → Member t (flat_map spot_transitions xs)
in_flat x t [] h i = member_none h
in_flat x t (y ∷ ys) (here q) i = member_left _ (subst (λ z. Member t (spot_transitions z)) q i)
in_flat x t (y ∷ ys) (there h) i = member_right (spot_transitions y) (in_flat x t ys h i)

of_flat : (t : PlainTransition) (xs : List Spot) → Member t (flat_map spot_transitions xs) → (x : Spot) × Member x xs × Member t (spot_transitions x)
of_flat t [] i = member_none i
of_flat t (y ∷ ys) i = either (member_cases (spot_transitions y) i) (λ i. (y, here refl, i)) (λ i. let r = of_flat t ys i in (r.0, there r.1, r.2))

module _ (vs : List Variable) (initial : Formula) (p : Processes) (locations : ℕ) (well : WellFormed p)
    (typed : (x : Spot) → Member x (all_spots p) → ActionFits vs (action x.stmt)) (fits : TestFits vs initial) where
  abbrev system : System
  system = translation vs initial p locations

  begins : (s : State) → IsFirst p initial s → formulas.truth (image p s) system.initial ≡ true
  begins s f =
      let c = first_control p well s f.begins in
      let there_is = located_truth (image p s) (starts p) (λ l m. listed l (control p s) (subst (Member l) (sym c) m)) in
      let holds_there = opened_truth (image p s) initial ∙ blind vs _ initial fits s.store (λ l. is_listed l (control p s)) (λ l. false) ∙ f.meets in
      append_truth (image p s) (formulas.formulas (map (λ l. at l) (starts p))) (opened initial) ∙ rw (there_is, holds_there) refl

  follows : (s t : State) (name : TransName) (mode : ℕ) → Reached p initial s → LeadsBy p s name mode t → GoesBy system (image p s) name mode (image p t)
  follows s t Idle mode r l = record {
    number = 0;
    step = record { transition = idling; numbered = refl; mode = _; place = 0; placed = refl; goes = refl; leads = ap (image p) l.0 };
    named = refl;
    moded = sym l.1;
  }
  follows s t (Step o part) mode r l =
      let taken = as_listed p well.numbered s t o part mode l in
      let a = taken.0 in
      let m = (control_moves p initial well).steps s r a taken.1 in
      let x = move_of m.0.move (all_spots p) m.0.is_in in
      let y = x.0 in
      let d = (paired vs (action y.stmt) (occurrence y.stmt) (location y.stmt) y.next (typed y x.1)).mode_of m.0.move x.2 in
      let number = member_at d.transition (flat_map spot_transitions (all_spots p)) (in_flat y d.transition (all_spots p) x.1 d.is_in) in
      record {
        number = suc number.0;
        step = record {
          transition = d.transition;
          numbered = number.1;
          mode = d.mode;
          place = d.place;
          placed = d.placed;
          goes = goes_of m.0.move d.mode (control p s) (control p (behind_act a)) s.store a.store d.matches m.1;
          leads = ap (image p) taken.4 ∙ image_behind m.0.move d.mode (control p s) (control p (behind_act a)) s.store a.store d.matches m.1;
        };
        named = d.name_is ∙ m.0.name_is ∙ taken.2;
        moded = sym d.numbered ∙ m.0.mode_is ∙ taken.3;
      }

  -- a step from a state with a name of the program
  leads_by : (s : State) (name : TransName) (mode : ℕ) (a : Act Rests) → Member a (steps_of s.left p s.store) → a.name ≡ name → a.mode ≡ mode → (part : Part) (o : ℕ) → name ≡ Step o part → LeadsBy p s name mode (behind_act a)
  leads_by s name mode a i e f part o q =
      subst (λ z. LeadsBy p s z mode (behind_act a)) (sym q) (subst (λ k. LeadsBy p s (Step o part) k (behind_act a)) f (by_cases p well.numbered s o part a i (e ∙ q)))

  follows_back : (s : State) (name : TransName) (mode : ℕ) (t : Situation) → Reached p initial s → GoesBy system (image p s) name mode t → (u : State) × LeadsBy p s name mode u × (image p u ≡ t)
  follows_back s name mode t r g = by_number g.number g.step g.named g.moded
    where
      idle_back : (number : ℕ) (step : Goes system (image p s) number t) → idling ≡ step.transition → step.transition.name ≡ name → suc step.place ≡ mode → (u : State) × LeadsBy p s name mode u × (image p u ≡ t)
      idle_back number step q e f =
          let is : Idle ≡ name = ap (λ z. z.name) q ∙ e in
          let modes : slice_get idling.modes step.place ≡ Some step.mode = ap (λ z. slice_get z.modes step.place) q ∙ step.placed in
          let only = one_mode step.place step.mode modes in
          (s, subst (λ z. LeadsBy p s z mode s) is (refl, sym f ∙ ap suc only.1), sym (step.leads ∙ ap (λ z. gone z (image p s)) (sym only.0)))
        where
          one_mode : (k : ℕ) (d : PlainMode) → slice_get idling.modes k ≡ Some d → (passing [] always [] ≡ d) × (k ≡ 0)
          one_mode zero d q = (cc, refl)
          one_mode (suc k) d q = cc

      by_number : (number : ℕ) (step : Goes system (image p s) number t) → step.transition.name ≡ name → suc step.place ≡ mode → (u : State) × LeadsBy p s name mode u × (image p u ≡ t)
      by_number zero step e f = idle_back zero step (let q = step.numbered in cc) e f
      by_number (suc number) step e f =
          let x = of_flat step.transition (all_spots p) (at_member step.transition (flat_map spot_transitions (all_spots p)) number step.numbered) in
          let y = x.0 in
          let m = (paired vs (action y.stmt) (occurrence y.stmt) (location y.stmt) y.next (typed y x.1)).move_of step.transition x.2 step.place step.mode step.placed in
          let moves = moves_of m.move step.mode (control p s) s.store m.matches step.goes in
          let to = left_over (control p s) m.move.from ++ m.move.to in
          let a = (control_moves p initial well).moves s r m.move (move_in y m.move (all_spots p) x.1 m.is_in) to (m.move.result s.store) moves in
          let same_control : (l : ℕ) → is_listed l (control p (behind_act a.step)) ≡ is_listed l to = λ l.
          same_bool _ _ (λ h. listed l to (a.to l (is_member l (control p (behind_act a.step)) h))) (λ h. listed l (control p (behind_act a.step)) (a.from l (is_member l to h))) in
          let seen_is : image p (behind_act a.step) ≡ situation (m.move.result s.store) (λ l. is_listed l to) = λ i. situation (a.store_is i) (λ l. same_control l i) in
          (behind_act a.step, (let part = own_name (action y.stmt) (occurrence y.stmt) (location y.stmt) y.next m.move m.is_in in leads_by s name mode a.step a.is_in (a.name_is ∙ m.name_is ∙ e) (a.mode_is ∙ m.numbered ∙ f) part.0 (occurrence y.stmt) (sym e ∙ sym m.name_is ∙ part.1)), seen_is ∙ image_behind m.move step.mode (control p s) to s.store (m.move.result s.store) m.matches moves ∙ sym step.leads)

  pub corresponds : Corresponds p initial system
  corresponds = record {
    names = ap (λ z. (Idle, Unfair) ∷ z) (all_named (all_spots p));
    begins = begins;
    follows = follows;
    follows_back = follows_back;
  }
