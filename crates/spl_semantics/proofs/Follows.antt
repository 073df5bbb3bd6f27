-- Each step of what fits is a move of its statement, and what is left behind it fits again.
use Rattle.std.proofs.Common.{◌≡◌, ℕ, suc, ◌+◌, Bool, true, false, List, [], ◌∷◌, ◌++◌, map, length, Option, Some, None, refl, sym, ap, ◌∙◌, subst, arith, append_assoc}
use Rattle.std.specs.Prelude.{not, is_some, unwrap_or, if◌then◌else◌}
use Rattle.std.proofs.lemmas.List.{append-nil}
use Rattle.st_form.specs.Formula.{Formula, row}
use Rattle.st_form.specs.declared.conditions.Part.TheVariants.{Exit}
use Rattle.st_form.specs.declared.conditions.TransName.{TransName}
use Rattle.st_form.specs.declared.conditions.TransName.TheVariants.{Step}
use Rattle.st_program.specs.Tree.{Statement, stated, skip, critical, noncritical, assign, await, request, release, if_then, if_else, while_do, block, select, cooperate, group, Statements, no_statement, statement, process, Processes, no_process, beside, Pieces, occurrence, location, nth}
use Rattle.st_program.specs.Member.{Member, here, there}
use Rattle.st_program.specs.Spots.{entry, bodies, bodies_in, Spot, at_spot, spots, spots_along, spots_among, spots_inside, all_spots, spot, body}
use Rattle.st_program.specs.Groups.{Link, paths_along}
use Rattle.st_program.specs.Residuals.{Rest, Done, Run, Then, Again, Inside, Rests, no_rest, rests}
use Rattle.spl_semantics.specs.Stores.{Store, holds, walked, one_less}
use Rattle.spl_semantics.specs.Steps.{joined_acts, path_act, path_acts, first_acts, acts_along, acts_among, acts_at, steps, steps_of}
use Rattle.spl_semantics.specs.Going.{Act, act, around, join, back, begin, all_done}
use Rattle.spl_semantics.specs.Control.{children_at, location_at, ends}
use Rattle.spl_semantics.proofs.TextMoves.{Move, path_moves, spot_moves, all_moves}
use Rattle.spl_semantics.proofs.Members.{member_none, member_left, member_right, member_cases, member_map}
use Rattle.spl_semantics.proofs.Texts.{Has, found, own_first, near, near_along, near_among, near_first, Region, along_region}
use Rattle.basic_laws.proofs.Types.{either}
use Rattle.spl_semantics.proofs.Fits.{location_or, place_at, body_place, location_of, front_to, fronts_to, Top, SameLocs, Layout, Fits, FitsAll, run_at, join_at, back_at}
use Rattle.spl_semantics.proofs.Bodies.{entry_is, own_bodies, body_of_block, in_body, begin_at}

-- a move of the program with this name and mode leads from one list of locations and store to another
pub record Moved (p : Processes) (name : TransName) (mode : ℕ) (store store' : Store) (before after : List ℕ) : Type 0 where
  pub move : Move
  pub is_in : Member move (all_moves (all_spots p))
  pub name_is : move.name ≡ name
  pub mode_is : move.mode ≡ mode
  pub allowed : move.allowed store ≡ true
  pub store_is : store' ≡ move.result store
  pub left : List ℕ
  pub right : List ℕ
  pub before_is : before ≡ left ++ (move.from ++ right)
  pub after_is : after ≡ left ++ (move.to ++ right)

abbrev pub MovedBy : {X : Type 0} → Processes → Store → Act X → List ℕ → List ℕ → Type 0
MovedBy p store a before after = Moved p a.name a.mode store a.store before after

pub move_in : (x : Spot) (t : Move) (xs : List Spot) → Member x xs → Member t (spot_moves x) → Member t (all_moves xs)
move_in x t [] h m = member_none h
move_in x t (y ∷ ys) (here e) m = member_left _ (subst (λ z. Member t (spot_moves z)) e m)
move_in x t (y ∷ ys) (there h) m = member_right (spot_moves y) (move_in x t ys h m)

-- a step with more around it
pub widen : (p : Processes) {n : TransName} {k : ℕ} {s s' : Store} {b a : List ℕ} (xs ys : List ℕ) → Moved p n k s s' b a → Moved p n k s s' (xs ++ (b ++ ys)) (xs ++ (a ++ ys))
widen p xs ys m = record {
  move = m.move;
  is_in = m.is_in;
  name_is = m.name_is;
  mode_is = m.mode_is;
  allowed = m.allowed;
  store_is = m.store_is;
  left = xs ++ m.left;
  right = m.right ++ ys;
  before_is = ap (λ l. xs ++ (l ++ ys)) m.before_is ∙ simp append_assoc;
  after_is = ap (λ l. xs ++ (l ++ ys)) m.after_is ∙ simp append_assoc;
}

pub along_paths : (p : Processes) {n : TransName} {k : ℕ} {s s' : Store} {b b' a a' : List ℕ} → b ≡ b' → a ≡ a' → Moved p n k s s' b a → Moved p n k s s' b' a'
along_paths p e f m = record {
  move = m.move;
  is_in = m.is_in;
  name_is = m.name_is;
  mode_is = m.mode_is;
  allowed = m.allowed;
  store_is = m.store_is;
  left = m.left;
  right = m.right;
  before_is = sym e ∙ m.before_is;
  after_is = sym f ∙ m.after_is;
}

-- where a step leads: a move of control, and something that fits again
pub record Lands (p : Processes) (all own : List Spot) (store : Store) (before : List ℕ) (e : ℕ) (a : Act Rest) : Type 0 where
  pub moved : MovedBy p store a before (front_to a.left p e)
  pub fits : Fits p a.left all own e

pub record LandsAll (p : Processes) (c : ℕ) (store : Store) (before : List ℕ) (ps : Processes) (a : Act Rests) : Type 0 where
  pub moved : MovedBy p store a before (fronts_to a.left p ps)
  pub fits : FitsAll p a.left ps c

-- at a step that is one of a list of one
leads_one : (p : Processes) (all own : List Spot) (store : Store) (before : List ℕ) (e : ℕ) (a b : Act Rest) → Member a (b ∷ []) → Lands p all own store before e b → Lands p all own store before e a
leads_one p all own store before e a b (here q) l = subst (Lands p all own store before e) (sym q) l
leads_one p all own store before e a b (there m) l = member_none m

not_true : (b : Bool) → b ≡ false → not b ≡ true
not_true true e = cc
not_true false e = refl

module _ (p : Processes) (layout : Layout p) (store : Store) where
  -- a move of a statement
  own_move : (s : Statement) (e c : ℕ) → Has p s e c → (t : Move) → Member t (spot_moves (at_spot s e c)) → t.allowed store ≡ true → (store' : Store) → store' ≡ t.result store → (before after : List ℕ) → before ≡ t.from → after ≡ t.to → Moved p t.name t.mode store store' before after
  own_move s e c h t mt g store' st before after b a = record {
    move = t;
    is_in = move_in (at_spot s e c) t (all_spots p) h mt;
    name_is = refl;
    mode_is = refl;
    allowed = g;
    store_is = st;
    left = [];
    right = [];
    before_is = b ∙ sym (append-nil t.from);
    after_is = a ∙ sym (append-nil t.to);
  }

  -- children that have all ended
  done_at : (rs : Rests) (ps : Processes) (c : ℕ) → FitsAll p rs ps c → all_done rs ≡ true → fronts_to rs p ps ≡ ends ps
  done_at no_rest no_process c f q = refl
  done_at no_rest (beside (process ss end) ps) c f q = absurd f
  done_at (rests r rs) no_process c f q = absurd f
  done_at (rests Done rs) (beside (process ss end) ps) c f q = ap (λ l. end ∷ l) (done_at rs ps _ f.1 q)
  done_at (rests (Run n) rs) (beside (process ss end) ps) c f q = cc
  done_at (rests (Then r b k) rs) (beside (process ss end) ps) c f q = cc
  done_at (rests (Again r w) rs) (beside (process ss end) ps) c f q = cc
  done_at (rests (Inside n r) rs) (beside (process ss end) ps) c f q = cc

  module _ (all own : List Spot) (region : Region p all own) where
    -- one of two, by a test
    by_test : (a : Act Rest) (t : Formula) (b : Bool) → holds t store ≡ b → (xs ys : List (Act Rest)) → (before : List ℕ) (e : ℕ) → (holds t store ≡ true → Member a xs → Lands p all own store before e a) → (not (holds t store) ≡ true → Member a ys → Lands p all own store before e a) → Member a (if b then xs else ys) → Lands p all own store before e a
    by_test a t true q xs ys before e f g m = f q m
    by_test a t false q xs ys before e f g m = g (not_true _ q) m

    -- the steps of a group, path by path
    path_leads : (a : Act Rest) (o l : ℕ) (xs : Pieces) (e c : ℕ) (paths : List (List Link)) (k : ℕ) → Has p (stated o l (group xs)) e c → ((t : Move) → Member t (path_moves o l k paths e) → Member t (spot_moves (at_spot (stated o l (group xs)) e c))) → Member a (path_acts o k paths store) → Lands p all own store (l ∷ []) e a
    path_leads a o l xs e c [] k h sub m = member_none m
    path_leads a o l xs e c (path ∷ paths) k h sub m =
        either (member_cases (path_act o k (walked path store)) m)
        (λ m. at_path (walked path store) refl m)
        (λ m. path_leads a o l xs e c paths (suc k) h (λ t i. sub t (there i)) m)
      where
        at_path : (w : Option Store) → walked path store ≡ w → Member a (path_act o k w) → Lands p all own store (l ∷ []) e a
        at_path None q m = member_none m
        at_path (Some t) q m =
            leads_one p all own store _ e a _ m record {
              moved = own_move _ e c h _ (sub _ (here refl)) (ap is_some q) t (sym (ap (λ z. unwrap_or z store) q)) _ _ refl refl;
              fits = tt;
            }

    mutual
      first_leads : (a : Act Rest) (s : Statement) (e c : ℕ) → Member (at_spot s e c) all → Member (at_spot s e c) own → Member a (first_acts s (length (all_spots p) + c) store) → Lands p all own store (location s ∷ []) e a
      first_leads a (stated o l skip) e c h h' m = leads_one p all own store _ e a _ m record { moved = own_move _ e c (region.sub _ h) _ (here refl) refl _ refl _ _ refl refl; fits = tt }
      first_leads a (stated o l critical) e c h h' m = leads_one p all own store _ e a _ m record { moved = own_move _ e c (region.sub _ h) _ (here refl) refl _ refl _ _ refl refl; fits = tt }
      first_leads a (stated o l noncritical) e c h h' m = leads_one p all own store _ e a _ m record { moved = own_move _ e c (region.sub _ h) _ (here refl) refl _ refl _ _ refl refl; fits = tt }
      first_leads a (stated o l (assign xs)) e c h h' m = leads_one p all own store _ e a _ m record { moved = own_move _ e c (region.sub _ h) _ (here refl) refl _ refl _ _ refl refl; fits = tt }
      first_leads a (stated o l (release v)) e c h h' m = leads_one p all own store _ e a _ m record { moved = own_move _ e c (region.sub _ h) _ (here refl) refl _ refl _ _ refl refl; fits = tt }
      first_leads a (stated o l (await t)) e c h h' m =
          by_test a t (holds t store) refl _ _ _ e
          (λ g m. leads_one p all own store _ e a _ m record { moved = own_move _ e c (region.sub _ h) _ (here refl) g _ refl _ _ refl refl; fits = tt })
          (λ g m. member_none m) m
      first_leads a (stated o l (request v)) e c h h' m =
          by_test a (row (one_less v)) (holds (row (one_less v)) store) refl _ _ _ e
          (λ g m. leads_one p all own store _ e a _ m record { moved = own_move _ e c (region.sub _ h) _ (here refl) g _ refl _ _ refl refl; fits = tt })
          (λ g m. member_none m) m
      first_leads a (stated o l (group xs)) e c h h' m = path_leads a o l xs e c (paths_along xs) 1 (region.sub _ h) (λ t i. i) m
      first_leads a (stated o l (if_then t s)) e c h h' m =
          let y = run_at p layout all own region s e c (region.closed_in _ _ h (there (own_first s e c))) (region.closed_own _ _ h' (there (near_first s e c))) (layout.tops _ e c (region.sub _ h)) in
          by_test a t (holds t store) refl _ _ _ e
          (λ g m. leads_one p all own store _ e a _ m record { moved = own_move _ e c (region.sub _ h) _ (here refl) g _ refl _ _ refl y.front_is; fits = y.fits })
          (λ g m. leads_one p all own store _ e a _ m record { moved = own_move _ e c (region.sub _ h) _ (there (here refl)) g _ refl _ _ refl refl; fits = tt }) m
      first_leads a (stated o l (if_else t s r)) e c h h' m =
          let tops = layout.tops _ e c (region.sub _ h) in
          let y = run_at p layout all own region s e c (region.closed_in _ _ h (there (member_left _ (own_first s e c)))) (region.closed_own _ _ h' (there (member_left _ (near_first s e c)))) tops.0 in
          let z = run_at p layout all own region r e _ (region.closed_in _ _ h (there (member_right (spots s e c) (own_first r e _)))) (region.closed_own _ _ h' (there (member_right (near s e c) (near_first r e _)))) tops.1 in
          by_test a t (holds t store) refl _ _ _ e
          (λ g m. leads_one p all own store _ e a _ m record { moved = own_move _ e c (region.sub _ h) _ (here refl) g _ refl _ _ refl y.front_is; fits = y.fits })
          (λ g m. leads_one p all own store _ e a _ m record { moved = own_move _ e c (region.sub _ h) _ (there (here refl)) g _ refl _ _ refl z.front_is; fits = z.fits }) m
      first_leads a (stated o l (while_do t s)) e c h h' m =
          let tops = layout.tops _ e c (region.sub _ h) in
          let y = run_at p layout all own region s l c (region.closed_in _ _ h (there (own_first s l c))) (region.closed_own _ _ h' (there (near_first s l c))) tops.1 in
          let w = back_at p layout all own region o l o t s e c (found p layout.numbered _ (region.sub _ h)) h h' tops.0 (Run (occurrence s)) y.fits in
          by_test a t (holds t store) refl _ _ _ e
          (λ g m. leads_one p all own store _ e a _ m record { moved = own_move _ e c (region.sub _ h) _ (here refl) g _ refl _ _ refl (w.front_is ∙ y.front_is); fits = w.fits })
          (λ g m. leads_one p all own store _ e a _ m record { moved = own_move _ e c (region.sub _ h) _ (there (here refl)) g _ refl _ _ refl refl; fits = tt }) m
      first_leads a (stated o l (block ss)) e c h h' m = along_leads a ss o l e c h h' m
      first_leads a (stated o l (select ss)) e c h h' m = among_leads a ss l e c (layout.heads (stated o l (select ss)) e c (region.sub _ h)) (λ y m. region.closed_in (at_spot (stated o l (select ss)) e c) y h (there m)) (λ y m. region.closed_own (at_spot (stated o l (select ss)) e c) y h' (there m)) m
      first_leads a (stated o l (cooperate ps)) e c h h' m =
          let b = begin_at p layout ps c (own_bodies p _ (region.sub _ h)) (layout.tops _ e c (region.sub _ h)) (λ y i. region.sub y (region.closed_in (at_spot (stated o l (cooperate ps)) e c) y h (there i))) in
          let f = found p layout.numbered (at_spot (stated o l (cooperate ps)) e c) (region.sub _ h) in
          leads_one p all own store _ e a _ m record {
            moved = own_move _ e c (region.sub _ h) _ (here refl) refl _ refl _ _ refl (ap (λ z. fronts_to (begin ps (length (all_spots p) + c)) p (children_at z)) f ∙ b.1);
            fits = (o, l, ps, c, f, h, b.0, h');
          }

      along_leads : (a : Act Rest) (ss : Statements) (o l e c : ℕ) → Member (at_spot (stated o l (block ss)) e c) all → Member (at_spot (stated o l (block ss)) e c) own → Member a (acts_along ss o (length (all_spots p) + c) store) → Lands p all own store (l ∷ []) e a
      along_leads a no_statement o l e c h h' m = member_none m
      along_leads a (statement s ss) o l e c h h' m =
          let r = member_map (around (λ r. join (statement s ss) r o 1)) a _ m in
          let i = first_leads r.0 s (entry ss e) c (region.closed_in (at_spot (stated o l (block (statement s ss))) e c) _ h (there (member_left _ (own_first s (entry ss e) c)))) (region.closed_own (at_spot (stated o l (block (statement s ss))) e c) _ h' (there (member_left _ (near_first s (entry ss e) c)))) r.1 in
          let named = body_of_block p layout.numbered o l (statement s ss) e c (region.sub _ h) in
          let tops = layout.tops _ e c (region.sub _ h) in
          let items = in_body p all own (statement s ss) e c (λ y i. region.closed_in (at_spot (stated o l (block (statement s ss))) e c) y h (there i)) (λ y i. region.closed_own (at_spot (stated o l (block (statement s ss))) e c) y h' (there i)) tops in
          let j = join_at p layout all own region (statement s ss) e o named items 1 (tops 0) r.0.left (subst (Fits p r.0.left all own) (entry_is ss e) i.fits) in
          let q : location s ∷ [] ≡ l ∷ [] = ap (λ z. z ∷ []) (layout.heads (stated o l (block (statement s ss))) e c (region.sub _ h)) in
          subst (Lands p all own store (l ∷ []) e) (sym r.2) record {
            moved = along_paths p q (ap (front_to r.0.left p) (entry_is ss e) ∙ sym j.front_is) i.moved;
            fits = j.fits;
          }

      among_leads : (a : Act Rest) (ss : Statements) (l e c : ℕ) → SameLocs ss l → ((y : Spot) → Member y (spots_among ss e c) → Member y all) → ((y : Spot) → Member y (near_among ss e c) → Member y own) → Member a (acts_among ss (length (all_spots p) + c) store) → Lands p all own store (l ∷ []) e a
      among_leads a no_statement l e c same sub sub' m = member_none m
      among_leads a (statement s ss) l e c same sub sub' m =
          let m' = length (all_spots p) in
          let q : location s ∷ [] ≡ l ∷ [] = ap (λ z. z ∷ []) same.0 in
          let k : m' + c + length (bodies s) ≡ m' + (c + length (bodies s)) = omega arith in
          either (member_cases (first_acts s (m' + c) store) m)
          (λ m. let i = first_leads a s e c (sub _ (member_left _ (own_first s e c))) (sub' _ (member_left _ (near_first s e c))) m in
          record { moved = along_paths p q refl i.moved; fits = i.fits })
          (λ m. among_leads a ss l e (c + length (bodies s)) same.1 (λ y n. sub y (member_right (spots s e c) n)) (λ y n. sub' y (member_right (near s e c) n)) (subst (λ z. Member a (acts_among ss z store)) k m))

    exit_leads : (o l : ℕ) (ps : Processes) (e c : ℕ) → Has p (stated o l (cooperate ps)) e c → (rs : Rests) → FitsAll p rs ps c → (a : Act Rest) (b : Bool) → all_done rs ≡ b → Member a (if b then act (Step o Exit) 1 Done store ∷ [] else []) → Lands p all own store (fronts_to rs p ps) e a
    exit_leads o l ps e c h rs f a true q m =
        leads_one p all own store _ e a _ m record { moved = own_move _ e c h _ (there (here refl)) refl _ refl _ _ (done_at rs ps c f q) refl; fits = tt }
    exit_leads o l ps e c h rs f a false q m = member_none m

  -- every step of what fits
  mutual
    pub leads : (r : Rest) (all own : List Spot) (region : Region p all own) (e : ℕ) (a : Act Rest) → Fits p r all own e → Member a (steps r p store) → Lands p all own store (front_to r p e) e a
    leads Done all own region e a f m = member_none m
    leads (Run n) all own region e a f m =
        let s = f.0 in let c = f.1 in
        let i = first_leads all own region a s e c f.3 f.5 (subst (λ z. Member a (acts_at z (length (all_spots p)) store)) f.2 m) in
        record { moved = along_paths p (sym (ap location_at f.2)) refl i.moved; fits = i.fits }
    leads (Then r b k) all own region e a f m =
        let ss = f.0 in let s = f.1 in
        let x = member_map (around (λ z. join ss z b k)) a _ (subst (λ z. Member a (joined_acts z b k (steps r p store))) f.2 m) in
        let i = leads r all own region (location s) x.0 f.5 x.1 in
        let q : location s ≡ place_at ss k e = sym (ap (λ z. location_or z e) f.3) in
        let top : (z : Statement) → nth ss k ≡ Some z → Top p z = λ z y. let same : Some s ≡ Some z = sym f.3 ∙ y in let is : s ≡ z = cc in subst (Top p) is f.7 in
        let j = join_at p layout all own region ss e b f.2 f.6 k top x.0.left (subst (Fits p x.0.left all own) q i.fits) in
        let w : body_place (body p b) k ≡ location s = ap (λ z. body_place z k) f.2 ∙ sym q in
        subst (Lands p all own store (front_to r p (body_place (body p b) k)) e) (sym x.2) record {
          moved = along_paths p (sym (ap (front_to r p) w)) (ap (front_to x.0.left p) q ∙ sym j.front_is) i.moved;
          fits = j.fits;
        }
    leads (Again r w) all own region e a f m =
        let l = f.1 in
        let x = member_map (around (back w)) a _ m in
        let i = leads r all own region l x.0 f.9 x.1 in
        let j = back_at p layout all own region f.0 l w f.2 f.3 e f.4 f.5 f.6 f.10 f.7 x.0.left i.fits in
        subst (Lands p all own store (front_to r p (location_of (spot p w))) e) (sym x.2) record {
          moved = along_paths p (sym (ap (λ z. front_to r p (location_of z)) f.5)) (sym j.front_is) i.moved;
          fits = j.fits;
        }
    leads (Inside n rs) all own region e a f m =
        let o = f.0 in let l = f.1 in let ps = f.2 in let c = f.3 in
        let same : n ≡ o = sym (layout.numbered n (at_spot (stated o l (cooperate ps)) e c) f.4) in
        let h = region.sub _ f.5 in
        let g = ap (λ z. fronts_to rs p (children_at z)) f.4 in
        either (member_cases (map (around (Inside n)) (steps_of rs p store)) m)
        (λ m.
        let x = member_map (around (Inside n)) a _ m in
        let i = all_leads rs ps c (λ y i. region.sub y (region.closed_in (at_spot (stated o l (cooperate ps)) e c) y f.5 (there i))) x.0 f.6 x.1 in
        subst (Lands p all own store (fronts_to rs p (children_at (spot p n))) e) (sym x.2) record {
          moved = along_paths p (sym g) (sym (ap (λ z. fronts_to x.0.left p (children_at z)) f.4)) i.moved;
          fits = (o, l, ps, c, f.4, f.5, i.fits, f.7);
        })
        (λ m.
        let i = exit_leads all own region o l ps e c h rs f.6 a (all_done rs) refl (subst (λ z. Member a (if all_done rs then act (Step z Exit) 1 Done store ∷ [] else [])) same m) in
        record { moved = along_paths p (sym g) refl i.moved; fits = i.fits })

    pub all_leads : (rs : Rests) (ps : Processes) (c : ℕ) → ((y : Spot) → Member y (spots_inside ps c) → Member y (all_spots p)) → (a : Act Rests) → FitsAll p rs ps c → Member a (steps_of rs p store) → LandsAll p c store (fronts_to rs p ps) ps a
    all_leads no_rest ps c sub a f m = member_none m
    all_leads (rests r rs) no_process c sub a f m = absurd f
    all_leads (rests r rs) (beside (process ss end) ps) c sub a f m =
        either (member_cases (map (around (λ x. rests x rs)) (steps r p store)) m)
        (λ m.
        let x = member_map (around (λ x. rests x rs)) a _ m in
        let i = leads r (spots_along ss end (suc c)) (near_along ss end (suc c)) (along_region p ss end (suc c) (λ y i. sub y (member_left _ i))) end x.0 f.0 x.1 in
        subst (LandsAll p c store (front_to r p end ++ fronts_to rs p ps) (beside (process ss end) ps)) (sym x.2) record {
          moved = widen p [] (fronts_to rs p ps) i.moved;
          fits = (i.fits, f.1);
        })
        (λ m.
        let x = member_map (around (λ xs. rests r xs)) a _ m in
        let i = all_leads rs ps (suc c + length (bodies_in ss)) (λ y i. sub y (member_right (spots_along ss end (suc c)) i)) x.0 f.1 x.1 in
        subst (LandsAll p c store (front_to r p end ++ fronts_to rs p ps) (beside (process ss end) ps)) (sym x.2) record {
          moved = along_paths p (ap (λ l. front_to r p end ++ l) (append-nil (fronts_to rs p ps))) (ap (λ l. front_to r p end ++ l) (append-nil (fronts_to x.0.left p ps))) (widen p (front_to r p end) [] i.moved);
          fits = (f.0, i.fits);
        })
