-- A schedule whose moves are all made is a run of these names, and each run is played by its names.
use Rattle.std.proofs.Common.{◌≡◌, ℕ, suc, Bool, true, false, List, [], ◌∷◌, map, Option, Some, None, refl, sym, ap, ◌∙◌, subst}
use Rattle.std.specs.Prelude.{if◌then◌else◌}
use Rattle.st_form.specs.Formula.{Formula}
use Rattle.st_form.specs.declared.conditions.TransName.{TransName}
use Rattle.st_form.specs.declared.conditions.TransName.TheVariants.{Idle, Step}
use Rattle.st_program.specs.Tree.{Processes}
use Rattle.st_program.specs.Member.{Member, here, there}
use Rattle.st_program.specs.Programs.{WellFormed}
use Rattle.st_program.specs.Residuals.{Rests}
use Rattle.st_program.specs.Spots.{IsNumbered}
use Rattle.spl_semantics.specs.Limits.{wide_rests}
use Rattle.spl_semantics.specs.Names.{same_name}
use Rattle.spl_semantics.specs.Runs.{State, Reached, next, Follows, Leads, LeadsBy}
use Rattle.spl_semantics.specs.Steps.{steps_of}
use Rattle.spl_semantics.specs.Going.{Act}
use Rattle.spl_semantics.proofs.ByCases.{behind_act, listed, by_cases}
use Rattle.spl_semantics.proofs.Members.{member_none}
use Rattle.spl_semantics.proofs.NameOrder.{same_name_is, name_same}
use Rattle.trace_player.specs.Playing.{Outcome, made, too_large, illegal, onto, go_on, outcome, step_named, behind_move, states_of}
use Rattle.trace_laws.specs.Schedules.{IsNarrow, IsRunOfNames}
use Rattle.trace_laws.proofs.Ways.{steps_separate}

some_is : (s t : State) → Some s ≡ Some t → s ≡ t
some_is s t e = cc

made_is : (xs ys : List (TransName × State)) → made xs ≡ made ys → xs ≡ ys
made_is xs ys e = cc

not_large : {A : Type 0} (k : ℕ) (later : List (TransName × State)) → too_large k ≡ made later → A
not_large k later e = cc

not_illegal : {A : Type 0} (k : ℕ) (later : List (TransName × State)) → illegal k ≡ made later → A
not_illegal k later e = cc

-- a step that has the name
abbrev Named : List (Act Rests) → TransName → State → Type 0
Named acts name t = (a : Act Rests) × Member a acts × (a.name ≡ name) × (t ≡ behind_act a)

-- the first step of the name is one of the name
named_is : (name : TransName) (acts : List (Act Rests)) (t : State) → step_named acts name ≡ Some t → Named acts name t
named_is name [] t e = cc
named_is name (a ∷ acts) t e = at_first (same_name a.name name) refl e (λ f. named_is name acts t f)
  where
    at_first : (b : Bool) → same_name a.name name ≡ b → (if b then Some (behind_act a) else step_named acts name) ≡ Some t
        → (step_named acts name ≡ Some t → Named acts name t) → Named (a ∷ acts) name t
    at_first true q e others = (a, here refl, same_name_is a.name name q, sym (some_is (behind_act a) t e))
    at_first false q e others = let r = others e in (r.0, there r.1, r.2, r.3)

-- where some step has the name there is a first one
pub named_found : (name : TransName) (acts : List (Act Rests)) (a : Act Rests) → Member a acts → a.name ≡ name → (t : State) × (step_named acts name ≡ Some t)
named_found name [] a m e = member_none m
named_found name (x ∷ acts) a m e = at_first (same_name x.name name) refl (λ i. named_found name acts a i e)
  where
    at_first : (b : Bool) → same_name x.name name ≡ b → (Member a acts → (t : State) × (step_named acts name ≡ Some t))
        → (t : State) × ((if b then Some (behind_act x) else step_named acts name) ≡ Some t)
    at_first true q others = (behind_act x, refl)
    at_first false q others = others (behind m)
      where
        behind : Member a (x ∷ acts) → Member a acts
        behind (here f) = let g : same_name x.name name ≡ true = ap (λ z. same_name z.name name) (sym f) ∙ ap (λ z. same_name z name) e ∙ name_same name in cc
        behind (there i) = i

-- a move that is made is a step
pub move_leads : (p : Processes) → IsNumbered p → (s t : State) (name : TransName) → behind_move p s name ≡ Some t → Leads p s name t
move_leads p numbered s t Idle e = (1, (sym (some_is s t e), refl))
move_leads p numbered s t (Step o part) e =
    let a = named_is (Step o part) (steps_of s.left p s.store) t e in
    (a.0.mode, subst (λ z. LeadsBy p s (Step o part) a.0.mode z) (sym a.3) (by_cases p numbered s o part a.0 a.1 a.2))

-- in a state of a run a step is the move that is made
pub leads_move : (p : Processes) (initial : Formula) → WellFormed p → (s t : State) (name : TransName) → Reached p initial s → Leads p s name t → behind_move p s name ≡ Some t
leads_move p initial well s t Idle r l = ap Some (sym l.1.0)
leads_move p initial well s t (Step o part) r l =
    let acts = steps_of s.left p s.store in
    let a = listed p well.numbered s t o part l.0 l.1 in
    let f = named_found (Step o part) acts a.0 a.1 a.2 in
    let b = named_is (Step o part) acts f.0 f.1 in
    let same = (steps_separate p initial well s r).single b.0 a.0 b.1 a.1 (b.2 ∙ sym a.2) in
    f.1 ∙ ap Some (b.3 ∙ ap behind_act same ∙ sym a.4)

-- how it ends where nothing is too large in the state
by_width : (p : Processes) (s : State) (k : ℕ) (o : Outcome) (later : List (TransName × State))
    → (if wide_rests s.left p s.store then too_large k else o) ≡ made later → IsNarrow p s × (o ≡ made later)
by_width p s k o later e = at_test (wide_rests s.left p s.store) refl e
  where
    at_test : (b : Bool) → wide_rests s.left p s.store ≡ b → (if b then too_large k else o) ≡ made later → IsNarrow p s × (o ≡ made later)
    at_test true q e = not_large k later e
    at_test false q e = (q, e)

pub narrow_goes : (p : Processes) (s : State) (k : ℕ) (o : Outcome) → IsNarrow p s → (if wide_rests s.left p s.store then too_large k else o) ≡ o
narrow_goes p s k o n = ap (λ b. if b then too_large k else o) n

-- the move is made, and then the others
went : (o : Option State) (others : State → Outcome) (name : TransName) (k : ℕ) (later : List (TransName × State)) → go_on o others name k ≡ made later
    → (t : State) × (l : List (TransName × State)) × (o ≡ Some t) × (others t ≡ made l) × (later ≡ (name, t) ∷ l)
went None others name k later e = not_illegal k later e
went (Some t) others name k later e = by_end (others t) refl e
  where
    by_end : (r : Outcome) → others t ≡ r → onto name t r ≡ made later
        → (u : State) × (l : List (TransName × State)) × (Some t ≡ Some u) × (others u ≡ made l) × (later ≡ (name, u) ∷ l)
    by_end (made l) q e = (t, l, refl, q, sym (made_is ((name, t) ∷ l) later e))
    by_end (too_large j) q e = not_large j later e
    by_end (illegal j) q e = not_illegal j later e

nothing_made : (p : Processes) (s : State) → IsNarrow p s → IsRunOfNames p s [] []
nothing_made p s n = record { follow = tt; named = refl; narrow = λ t m. narrow_at m }
  where
    narrow_at : {t : State} → Member t (s ∷ []) → IsNarrow p t
    narrow_at (here e) = subst (IsNarrow p) (sym e) n
    narrow_at (there m) = member_none m

one_more : (p : Processes) (s t : State) (name : TransName) (names : List TransName) (later : List (TransName × State)) → IsNarrow p s → Leads p s name t
    → IsRunOfNames p t names later → IsRunOfNames p s (name ∷ names) ((name, t) ∷ later)
one_more p s t name names later n l r = record { follow = (l, r.follow); named = ap (λ ns. name ∷ ns) r.named; narrow = λ u m. narrow_at m }
  where
    narrow_at : {u : State} → Member u (states_of s ((name, t) ∷ later)) → IsNarrow p u
    narrow_at (here e) = subst (IsNarrow p) (sym e) n
    narrow_at {u} (there m) = r.narrow u m

-- the first direction, from any state and position
pub made_follows : (p : Processes) → IsNumbered p → (names : List TransName) (s : State) (k : ℕ) (later : List (TransName × State)) → outcome p names s k ≡ made later → IsRunOfNames p s names later
made_follows p numbered [] s k later e =
    let h = by_width p s k (made []) later e in
    subst (IsRunOfNames p s []) (made_is [] later h.1) (nothing_made p s h.0)
made_follows p numbered (name ∷ names) s k later e =
    let h = by_width p s k (go_on (behind_move p s name) (λ t. outcome p names t (suc k)) name k) later e in
    let w = went (behind_move p s name) (λ t. outcome p names t (suc k)) name k later h.1 in
    subst (IsRunOfNames p s (name ∷ names)) (sym w.4) (one_more p s w.0 name names w.1 h.0 (move_leads p numbered s w.0 name w.2) (made_follows p numbered names w.0 (suc k) w.1 w.3))

-- the second direction
played : (p : Processes) (initial : Formula) → WellFormed p → (later : List (TransName × State)) (s : State) (k : ℕ) → Reached p initial s → Follows p s later
    → ((t : State) → Member t (states_of s later) → IsNarrow p t) → outcome p (map (λ step. step.0) later) s k ≡ made later
played p initial well [] s k r f n = narrow_goes p s k (made []) (n s (here refl))
played p initial well (step ∷ later) s k r f n =
    let others : State → Outcome = λ t. outcome p (map (λ step. step.0) later) t (suc k) in
    narrow_goes p s k (go_on (behind_move p s step.0) others step.0 k) (n s (here refl))
    ∙ ap (λ o. go_on o others step.0 k) (leads_move p initial well s step.1 step.0 r f.0)
    ∙ ap (onto step.0 step.1) (played p initial well later step.1 (suc k) (next step.0 r f.0) f.1 (λ t m. n t (there m)))

pub run_made : (p : Processes) (initial : Formula) → WellFormed p → (names : List TransName) (s : State) (k : ℕ) (later : List (TransName × State)) → Reached p initial s → IsRunOfNames p s names later → outcome p names s k ≡ made later
run_made p initial well names s k later r run = subst (λ ns. outcome p ns s k ≡ made later) run.named (played p initial well later s k r run.follow run.narrow)
