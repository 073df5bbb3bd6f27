-- The steps of a program are the moves of its statements, in every state of every run.
use Rattle.std.proofs.Common.{◌≡◌, ℕ, ◌+◌, true, List, [], ◌++◌, length, refl, sym, ap, ◌∙◌, subst, inl, inr, arith}
use Rattle.st_form.specs.Formula.{Formula}
use Rattle.st_form.specs.declared.conditions.TransName.{TransName}
use Rattle.st_form.specs.declared.conditions.TransName.TheVariants.{Idle, Step}
use Rattle.observations.specs.declared.Fairness.{Fairness}
use Rattle.observations.specs.declared.Fairness.TheVariants.{Unfair}
use Rattle.st_program.specs.Tree.{stated, cooperate, process, Processes, no_process, beside, occurrence, location, action}
use Rattle.st_program.specs.Member.{Member, here}
use Rattle.st_program.specs.Spots.{bodies_of, at_spot, all_spots}
use Rattle.st_program.specs.Programs.{WellFormed}
use Rattle.st_program.specs.Residuals.{Rests}
use Rattle.spl_semantics.specs.Stores.{Store}
use Rattle.spl_semantics.specs.Steps.{steps_of}
use Rattle.spl_semantics.specs.Going.{Act, begin}
use Rattle.spl_semantics.specs.Control.{starts, ends, fronts}
use Rattle.spl_semantics.proofs.TextMoves.{Move, spot_moves, all_moves}
use Rattle.spl_semantics.specs.Names.{all_names}
use Rattle.spl_semantics.specs.Runs.{State, Leads, Reached, first, next, control}
use Rattle.spl_semantics.proofs.Moving.{Moves, NamedMove, StepsAreMoves, MovesAreSteps, ControlMoves}
use Rattle.spl_semantics.proofs.ByCases.{behind_act, listed}
use Rattle.spl_semantics.proofs.Members.{member_left, member_right, member_cases}
use Rattle.spl_semantics.proofs.Texts.{Has, same_number}
use Rattle.basic_laws.proofs.Types.{either}
use Rattle.spl_semantics.proofs.Fits.{fronts_to, Layout, FitsAll}
use Rattle.spl_semantics.proofs.Bodies.{has_all, begin_at}
use Rattle.spl_semantics.proofs.Follows.{LandsAll, all_leads}
use Rattle.spl_semantics.proofs.Enabled.{Apart, all_do}
use Rattle.spl_semantics.proofs.Ended.{Ends, all_exits}
use Rattle.spl_semantics.proofs.Layouts.{layout_of, ends_of, apart_of}
use Rattle.spl_semantics.proofs.Fronts.{NoDup, no_dup_split, no_dup_right, no_dups, fronts_front}
use Rattle.spl_semantics.proofs.Origins.{origin, move_of, own_once, same_statement, move_named}

-- a segment of a list without doubles is exchanged
moved_segment : (m : Move) (store store' : Store) (left right before after : List ℕ) → m.allowed store ≡ true → store' ≡ m.result store → before ≡ left ++ (m.from ++ right) → after ≡ left ++ (m.to ++ right) → NoDup before → Moves m before store after store'
moved_segment m store store' left right before after g st b a d =
    let d' : NoDup (left ++ (m.from ++ right)) = subst NoDup b d in
    record {
      in_place = λ k i. subst (Member k) (sym b) (member_right left (member_left _ i));
      allowed = g;
      store_is = st;
      stays = λ k i. either (member_cases left (subst (Member k) a i))
          (λ i. inl (subst (Member k) (sym b) (member_left _ i), λ j. no_dup_split left (m.from ++ right) k d' i (member_left _ j)))
          (λ i. either (member_cases m.to i) (λ i. inr i)
          (λ i. inl (subst (Member k) (sym b) (member_right left (member_right m.from i)), λ j. no_dup_split m.from right k (no_dup_right left _ d') j i)));
      kept = λ k i out. subst (Member k) (sym a) (either (member_cases left (subst (Member k) b i))
          (λ i. member_left _ i)
          (λ i. either (member_cases m.from i) (λ i. absurd (out i)) (λ i. member_right left (member_right m.to i))));
      enters = λ k i. subst (Member k) (sym a) (member_right left (member_left _ i));
    }

-- two steps of one move from one place lead to one place
same_place : (m : Move) (at : List ℕ) (store : Store) (at1 at2 : List ℕ) (s1 s2 : Store) → Moves m at store at1 s1 → Moves m at store at2 s2 → (k : ℕ) → Member k at1 → Member k at2
same_place m at store at1 at2 s1 s2 x y k i = either (x.stays k i) (λ j. y.kept k j.0 j.1) (λ j. y.enters k j)

some_end : (ps : Processes) → ((ps ≡ no_process) → ⊥) → (k : ℕ) × Member k (ends ps)
some_end no_process q = absurd (q refl)
some_end (beside (process ss end) ps) q = (end, here refl)

module _ (p : Processes) (layout : Layout p) (ends_ok : Ends p) (apart : Apart p) where
  move_once : (m n : Move) → Member m (all_moves (all_spots p)) → Member n (all_moves (all_spots p)) → m.name ≡ n.name → m.mode ≡ n.mode → m ≡ n
  move_once m n a b q r =
      let x = move_of m (all_spots p) a in
      let y = move_of n (all_spots p) b in
      let same : x.0 ≡ y.0 = same_number p layout.numbered x.0 y.0 x.1 y.1 (same_statement x.0 y.0 m n x.2 y.2 q) in
      let z = x.0 in
      own_once (action z.stmt) (occurrence z.stmt) (location z.stmt) z.next m n x.2 (subst (λ z. Member n (spot_moves z)) (sym same) y.2) q r

  abbrev pub IsGood : State → Type 0
  IsGood s = FitsAll p s.left p 0

  begin_good : FitsAll p (begin p (length (all_spots p))) p 0
  begin_good =
      let b = begin_at p layout p 0 (has_all [] (bodies_of p)) layout.process_tops (λ y m. m) in
      let e : length (all_spots p) + 0 ≡ length (all_spots p) = omega arith in
      subst (λ z. FitsAll p (begin p z) p 0) e b.0

  -- at the beginning control is at the first location of each process
  pub begin_control : (s : State) → s.left ≡ begin p (length (all_spots p)) → control p s ≡ starts p
  begin_control s q =
      let b = begin_at p layout p 0 (has_all [] (bodies_of p)) layout.process_tops (λ y m. m) in
      let e : length (all_spots p) + 0 ≡ length (all_spots p) = omega arith in
      ap (λ z. fronts z p p) q
      ∙ sym (fronts_front p layout ends_ok (begin p (length (all_spots p))) p 0 begin_good)
      ∙ subst (λ z. fronts_to (begin p z) p p ≡ starts p) e b.1

  pub step_good : (s : State) (a : Act Rests) → IsGood s → Member a (steps_of s.left p s.store) → LandsAll p 0 s.store (fronts_to s.left p p) p a
  step_good s a g m = all_leads p layout s.store s.left p 0 (λ y m. m) a g m

  leads_good : (s t : State) (name : TransName) → IsGood s → Leads p s name t → IsGood t
  leads_good s t Idle g l = subst IsGood (sym l.1.0) g
  leads_good s t (Step o part) g l =
      let a = listed p layout.numbered s t o part l.0 l.1 in
      subst IsGood (sym a.4) (step_good s a.0 g a.1).fits

  pub reached_good : (initial : Formula) {s : State} → Reached p initial s → IsGood s
  reached_good initial (first f) = subst (λ z. FitsAll p z p 0) (sym f.begins) begin_good
  reached_good initial {s = t} (next {s = s} name r l) = leads_good s t name (reached_good initial r) l

  steps_are_moves : (s : State) → IsGood s → StepsAreMoves p s
  steps_are_moves s g a i =
      let l = step_good s a g i in
      let m = l.moved in
      let named : NamedMove p a.name a.mode = record { move = m.move; is_in = m.is_in; name_is = m.name_is; mode_is = m.mode_is } in
      let step = moved_segment m.move s.store a.store m.left m.right (fronts_to s.left p p) (fronts_to a.left p p) m.allowed m.store_is m.before_is m.after_is (no_dups p layout ends_ok s.left p 0 0 (λ y m. m) ends_ok.spans_outer g) in
      let c1 = fronts_front p layout ends_ok s.left p 0 g in
      let c2 = fronts_front p layout ends_ok a.left p 0 l.fits in
      (named, subst (λ z. Moves m.move (control p s) s.store z a.store) c2 (subst (λ z. Moves m.move z s.store (fronts_to a.left p p) a.store) c1 step))

  -- some step has the name, the mode and the store
  has_step : (s : State) → IsGood s → (m : Move) → Member m (all_moves (all_spots p)) → (at' : List ℕ) (store' : Store) → Moves m (control p s) s.store at' store' → (a : Act Rests) × Member a (steps_of s.left p s.store) × (a.name ≡ m.name) × (a.mode ≡ m.mode) × (a.store ≡ store')
  has_step s g m m_in at' store' st =
      let x = move_of m (all_spots p) m_in in
      let at : (l : ℕ) → Member l m.from → Member l (fronts_to s.left p p) = λ l i. subst (Member l) (sym (fronts_front p layout ends_ok s.left p 0 g)) (st.in_place l i) in
      let y = x.0 in
      either (origin s.store m st.allowed y.stmt y.next (length (all_spots p) + y.before) x.2)
      (λ f.
      let here_is : Member (location y.stmt) (fronts_to s.left p p) = at _ (subst (λ z. Member (location y.stmt) z) (sym f.from_is) (here refl)) in
      let d = all_do p layout s.store y x.1 f.acting f.act f.is_in apart s.left p 0 (λ y m. m) (has_all [] (bodies_of p)) g here_is in
      (d.step, d.is_in, d.same.name ∙ f.name, d.same.mode ∙ f.mode, d.same.store ∙ f.store_is ∙ sym st.store_is))
      (λ f.
      let spot_is : y ≡ at_spot (stated f.o f.l (cooperate f.children)) y.next y.before = ap (λ z. at_spot z y.next y.before) f.stmt in
      let x_in : Has p (stated f.o f.l (cooperate f.children)) y.next y.before = subst (λ z. Member z (all_spots p)) spot_is x.1 in
      let first = some_end f.children (λ q. ends_ok.some_process f.o f.l y.next y.before (subst (λ z. Has p (stated f.o f.l (cooperate z)) y.next y.before) q x_in)) in
      let d = all_exits p layout ends_ok s.store f.o f.l y.next y.before f.children x_in s.left p 0 0 (λ y m. m) ends_ok.spans_outer g first.0 first.1 (λ k i. at k (subst (Member k) (sym f.from_is) i)) (λ k i j. ends_ok.outer _ k x_in i j) in
      (d.step, d.is_in, d.same.name ∙ f.name, d.same.mode ∙ f.mode, d.same.store ∙ sym (f.result_is s.store) ∙ sym st.store_is))

  moves_are_steps : (s : State) → IsGood s → MovesAreSteps p s
  moves_are_steps s g m m_in at' store' st =
      let h = has_step s g m m_in at' store' st in
      let a = h.0 in
      let f = steps_are_moves s g a h.1 in
      let same : f.0.move ≡ m = move_once f.0.move m f.0.is_in m_in (f.0.name_is ∙ h.2) (f.0.mode_is ∙ h.3) in
      let mine : Moves m (control p s) s.store (control p (behind_act a)) a.store = subst (λ z. Moves z (control p s) s.store (control p (behind_act a)) a.store) same f.1 in
      record {
        step = a;
        is_in = h.1;
        name_is = h.2;
        mode_is = h.3;
        store_is = h.4;
        to = same_place m _ _ _ _ _ _ mine st;
        from = same_place m _ _ _ _ _ _ st mine;
      }

pub control_moves : (p : Processes) (initial : Formula) → WellFormed p → ControlMoves p initial
control_moves p initial w =
    let layout = layout_of p w in
    record {
      steps = λ s r. steps_are_moves p layout (ends_of p w) (apart_of p w) s (reached_good p layout (ends_of p w) (apart_of p w) initial r);
      moves = λ s r. moves_are_steps p layout (ends_of p w) (apart_of p w) s (reached_good p layout (ends_of p w) (apart_of p w) initial r);
    }

-- the name of a step from a state of a run is one of the program's names
pub step_named : (p : Processes) (initial : Formula) → WellFormed p → (s t : State) (name : TransName) → Reached p initial s → Leads p s name t → (n : TransName × Fairness) × Member n (all_names p) × (n.0 ≡ name)
step_named p initial w s t Idle r l = ((Idle, Unfair), here refl, refl)
step_named p initial w s t (Step o part) r l =
    let a = listed p w.numbered s t o part l.0 l.1 in
    let m = (control_moves p initial w).steps s r a.0 a.1 in
    let n = move_named p m.0.move m.0.is_in in
    (n.0, n.1, n.2 ∙ m.0.name_is ∙ a.2)

pub first_control : (p : Processes) → WellFormed p → (s : State) → s.left ≡ begin p (length (all_spots p)) → control p s ≡ starts p
first_control p w s q = begin_control p (layout_of p w) (ends_of p w) (apart_of p w) s q
