-- A well-formed program has the layout that its steps use.
--
-- For a fixed statement x one walk over the text carries along that x stands in this part, or that none of its locations is in
-- the part's interval.
use Rattle.std.proofs.Common.{◌≡◌, ℕ, zero, suc, ◌+◌, ◌<◌, ◌≤◌, List, [], ◌∷◌, length, Some, refl, sym, ap, ◌∙◌, subst, ◌⊎◌, inl, inr, arith}
use Rattle.st_program.specs.Tree.{Statement, stated, skip, if_then, if_else, while_do, block, select, cooperate, Statements, no_statement, statement, process, Processes, no_process, beside, occurrence, location, action, nth}
use Rattle.st_program.specs.Member.{Member, here, there}
use Rattle.st_program.specs.Spots.{entry, bodies, bodies_in, bodies_of, Body, Spot, at_spot, spots, spots_along, spots_among, spots_inside, all_spots}
use Rattle.st_program.specs.Locations.{location_end, head_end, along_end, among_end, inside_end, IsPlaced, HeadPlaced, AlongPlaced, AmongPlaced, InsidePlaced, SomeProcess, NoLoop, NoLoopFirst, NoLoops, HeadsFit}
use Rattle.st_program.specs.Programs.{WellFormed}
use Rattle.spl_semantics.specs.Control.{children_of, ends}
use Rattle.spl_semantics.proofs.Members.{member_none, member_left, member_right, member_cases, at_member}
use Rattle.basic_laws.proofs.Types.{either}
use Rattle.spl_semantics.proofs.Fits.{IsActing, firsts, firsts_along, Top, AllTop, ProcessTops, TopOk, SameLocs, HeadOk, Layout}
use Rattle.spl_semantics.proofs.Enabled.{Apart}
use Rattle.spl_semantics.proofs.Ended.{Between, InSpan, Spans, Ends}
use Rattle.spl_semantics.proofs.Intervals.{grow, grow_along, grow_among, grow_inside, own_loc, to_span, range, range_along, range_among, range_inside, inside_ends, spans_of, mem_above, inside_apart}

-- where a statement x is seen from another part of the text
module _ (p : Processes) (x : Spot) where
  pub record Out (low high : ℕ) : Type 0 where
    pub own : Between low high (location x.stmt) → ⊥
    pub inner : (k : ℕ) → Member k (ends (children_of (action x.stmt))) → Between low high k → ⊥

  abbrev TopAt : Statement → Type 0
  TopAt t = IsActing x.stmt → location x.stmt ≡ location t → Member x.stmt (firsts t)

  narrow : (a b c d : ℕ) → a ≤ c → d ≤ b → Out a b → Out c d
  narrow a b c d l h o = record {
    own = λ q. let y : c ≤ location x.stmt = q.0 in let z : location x.stmt < d = q.1 in o.own (omega arith, omega arith);
    inner = λ k i q. let y : c ≤ k = q.0 in let z : k < d = q.1 in o.inner k i (omega arith, omega arith);
  }

  -- it stands behind, or before
  out_behind : (a b c d : ℕ) → b ≤ c → InSpan x c d → Out a b
  out_behind a b c d l s = record {
    own = λ q. let y : c ≤ location x.stmt = s.own.0 in let z : location x.stmt < b = q.1 in absurd (omega arith);
    inner = λ k i q. let y : c ≤ k = (s.inner k i).0 in let z : k < b = q.1 in absurd (omega arith);
  }

  out_before : (a b c d : ℕ) → d ≤ a → InSpan x c d → Out a b
  out_before a b c d l s = record {
    own = λ q. let y : location x.stmt < d = s.own.1 in let z : a ≤ location x.stmt = q.0 in absurd (omega arith);
    inner = λ k i q. let y : k < d = (s.inner k i).1 in let z : a ≤ k = q.0 in absurd (omega arith);
  }

  -- it is the statement around
  out_self : (s : Statement) (n c own f high : ℕ) → x ≡ at_spot s n c → location s ≡ own → own < f → ends (children_of (action s)) ≡ [] → Out f high
  out_self s n c own f high q l b e = record {
    own = λ r. let y : location x.stmt ≡ own = ap (λ z. location z.stmt) q ∙ l in let z : f ≤ location x.stmt = r.0 in absurd (omega arith);
    inner = λ k i r. member_none (subst (Member k) (ap (λ z. ends (children_of (action z.stmt))) q ∙ e) i);
  }

  -- a statement with a location of its own, from which the locations in it go on
  fresh_top : (s : Statement) (f n c : ℕ) → IsPlaced s f (suc f) → Member x (spots s n c) ⊎ Out f (location_end s (suc f)) → TopAt s
  fresh_top s f n c h io acting q =
      let l : location s ≡ f = own_loc s f (suc f) h in
      let g = grow s (suc f) in
      either io
      (λ m. either (range s f (suc f) n c h x m).where_is (λ r. r.1 acting) (λ r. let y : suc f ≤ location x.stmt = r.0 in absurd (omega arith)))
      (λ o. absurd (o.own (omega arith, omega arith)))

  inner_io : (s : Statement) (f n c : ℕ) → Member x (spots s n c) ⊎ Out f (location_end s (suc f)) → Member x (spots s n c) ⊎ Out (suc f) (location_end s (suc f))
  inner_io s f n c io = either io (λ m. inl m) (λ o. inr (narrow f _ (suc f) _ (omega arith) (omega arith) o))

  abbrev AllTopAt : Statements → Type 0
  AllTopAt ss = (k : ℕ) (s : Statement) → nth ss k ≡ Some s → TopAt s

  abbrev ProcessTopsAt : Processes → Type 0
  ProcessTopsAt no_process = Unit {0}
  ProcessTopsAt (beside (process ss end) ps) = AllTopAt ss × ProcessTopsAt ps

  abbrev TopOkAt : Statement → Type 0
  TopOkAt (stated o l (if_then t s)) = TopAt s
  TopOkAt (stated o l (if_else t s r)) = TopAt s × TopAt r
  TopOkAt (stated o l (while_do t s)) = TopAt (stated o l (while_do t s)) × TopAt s
  TopOkAt (stated o l (block ss)) = (k : ℕ) (s : Statement) → nth ss (suc k) ≡ Some s → TopAt s
  TopOkAt (stated o l (cooperate ps)) = ProcessTopsAt ps
  TopOkAt (stated o l skip) = Unit {0}
  TopOkAt (stated o l _) = Unit {0}

  -- all that is wanted of a statement y
  pub record Good (y : Spot) : Type 0 where
    pub head : HeadOk y.stmt
    pub top : TopOkAt y.stmt
    pub apart : (k : ℕ) → Member k (ends (children_of (action y.stmt))) → location x.stmt ≡ k → ⊥
    pub once : (k : ℕ) → Member k (ends (children_of (action y.stmt))) → Member k (ends (children_of (action x.stmt))) → occurrence x.stmt ≡ occurrence y.stmt
    pub span : (low : ℕ) × Spans (children_of (action y.stmt)) y.before low
    pub some : (o l : ℕ) → y.stmt ≡ stated o l (cooperate no_process) → ⊥

  -- a statement without children
  childless : (s : Statement) (n c : ℕ) (y : Spot) → y ≡ at_spot s n c → HeadOk s → TopOkAt s → children_of (action s) ≡ no_process → ((o l : ℕ) → s ≡ stated o l (cooperate no_process) → ⊥) → Good y
  childless s n c y q h t e v = subst Good (sym q) record {
    head = h;
    top = t;
    apart = λ k i z. member_none (subst (λ w. Member k (ends w)) e i);
    once = λ k i j. member_none (subst (λ w. Member k (ends w)) e i);
    span = (0, subst (λ w. Spans w c 0) (sym e) tt);
    some = v;
  }

  -- where x is, for one of the parts of a statement
  abbrev Io : List Spot → ℕ → ℕ → Type 0
  Io all low high = Member x all ⊎ Out low high

  -- the children of a cooperation whose ends may be x's
  pub record InsideOut (ps : Processes) (low high : ℕ) : Type 0 where
    pub own : Between low high (location x.stmt) → ⊥
    pub inner : (k : ℕ) → Member k (ends (children_of (action x.stmt))) → Between low high k → Member k (ends ps)

  all_fresh : (ss : Statements) (f n c : ℕ) → AlongPlaced ss f → Io (spots_along ss n c) f (along_end ss f) → AllTopAt ss
  all_fresh no_statement f n c h io k s q = cc
  all_fresh (statement s ss) f n c h io zero r q =
      let same : s ≡ r = cc in
      let g = location_end s (suc f) in
      let a = grow s (suc f) in let b = grow_along ss g in
      subst TopAt same (fresh_top s f (entry ss n) c h.0
      (either io
      (λ m. either (member_cases (spots s (entry ss n) c) m) (λ m. inl m) (λ m. inr (out_behind f g g _ (omega arith) (range_along ss g n _ h.1 x m))))
      (λ o. inr (narrow f _ f g (omega arith) b o))))
  all_fresh (statement s ss) f n c h io (suc k) r q =
      let g = location_end s (suc f) in
      let a = grow s (suc f) in
      all_fresh ss g n (c + length (bodies s)) h.1
      (either io
      (λ m. either (member_cases (spots s (entry ss n) c) m) (λ m. inr (out_before g _ f g (omega arith) (to_span _ x f g a (range s f (suc f) _ c h.0 x m)))) (λ m. inl m))
      (λ o. inr (narrow f _ g _ (omega arith) (omega arith) o)))
      k r q

  tail_io : (z : Spot) (all : List Spot) (a b : ℕ) → Io (z ∷ all) a b → (x ≡ z → Out a b) → Io all a b
  tail_io z all a b (inl (here q)) f = inr (f q)
  tail_io z all a b (inl (there m)) f = inl m
  tail_io z all a b (inr o) f = inr o

  first_io : (s : Statement) (ss : Statements) (f n c : ℕ) → AlongPlaced ss (location_end s f) → Io (spots_along (statement s ss) n c) f (along_end ss (location_end s f)) → Io (spots s (entry ss n) c) f (location_end s f)
  first_io s ss f n c h io =
      let g = location_end s f in
      let b = grow_along ss g in
      either io
      (λ m. either (member_cases (spots s (entry ss n) c) m) (λ m. inl m) (λ m. inr (out_behind f g g _ (omega arith) (range_along ss g n _ h x m))))
      (λ o. inr (narrow f _ f g (omega arith) b o))

  -- what is known of the first statement's place gives the same of the others
  rest_io : (s : Statement) (ss : Statements) (f g n c : ℕ) → f ≤ g → ((m : Member x (spots s (entry ss n) c)) → Out g (along_end ss g)) → Io (spots_along (statement s ss) n c) f (along_end ss g) → Io (spots_along ss n (c + length (bodies s))) g (along_end ss g)
  rest_io s ss f g n c l out io =
      either io
      (λ m. either (member_cases (spots s (entry ss n) c) m) (λ m. inr (out m)) (λ m. inl m))
      (λ o. inr (narrow f _ g _ l (omega arith) o))

  InsideIo : Processes → ℕ → ℕ → Type 0
  InsideIo ps f c = Member x (spots_inside ps c) ⊎ InsideOut ps f (inside_end ps f)

  module _ (ss : Statements) (end : ℕ) (ps : Processes) (f c : ℕ) (h : InsidePlaced (beside (process ss end) ps) f) where
    body_io : InsideIo (beside (process ss end) ps) f c → Io (spots_along ss end (suc c)) f (along_end ss f)
    unfolding InsideIo
    body_io io =
        let e : end ≡ along_end ss f = h.1 in
        let a = grow_along ss f in
        let top : inside_end ps (suc end) ≡ inside_end ps (suc (along_end ss f)) = ap (λ z. inside_end ps (suc z)) e in
        let g = grow_inside ps (suc end) in
        either io
        (λ m. either (member_cases (spots_along ss end (suc c)) m) (λ m. inl m) (λ m. inr (out_behind f (along_end ss f) (suc end) _ (omega arith) (range_inside ps (suc end) _ h.2 x m))))
        (λ o. inr record {
          own = λ q. let y : f ≤ location x.stmt = q.0 in let z : location x.stmt < along_end ss f = q.1 in o.own (omega arith, omega arith);
          inner = λ k i q. let y : f ≤ k = q.0 in let z : k < along_end ss f = q.1 in not_end k (o.inner k i (omega arith, omega arith)) (omega arith);
        })
      where
        not_end : (k : ℕ) → Member k (ends (beside (process ss end) ps)) → k < end → ⊥
        not_end k (here q) l = let y : k ≡ end = q in absurd (omega arith)
        not_end k (there m) l = let y = mem_above ps (suc end) h.2 k m in absurd (omega arith)

    rest_inside_io : InsideIo (beside (process ss end) ps) f c → InsideIo ps (suc end) (suc c + length (bodies_in ss))
    unfolding InsideIo
    rest_inside_io io =
        let e : end ≡ along_end ss f = h.1 in
        let a = grow_along ss f in
        let top : inside_end ps (suc end) ≡ inside_end ps (suc (along_end ss f)) = ap (λ z. inside_end ps (suc z)) e in
        either io
        (λ m. either (member_cases (spots_along ss end (suc c)) m)
        (λ m.
        let w : InSpan x f end = subst (InSpan x f) (sym e) (range_along ss f end _ h.0 x m) in
        inr record {
          own = λ q. let y : suc end ≤ location x.stmt = q.0 in let z : location x.stmt < end = w.own.1 in absurd (omega arith);
          inner = λ k i q. let y : suc end ≤ k = q.0 in let z : k < end = (w.inner k i).1 in absurd (omega arith);
        })
        (λ m. inl m))
        (λ o. inr record {
          own = λ q. let y : suc end ≤ location x.stmt = q.0 in let z : location x.stmt < inside_end ps (suc end) = q.1 in o.own (omega arith, omega arith);
          inner = λ k i q. let y : suc end ≤ k = q.0 in let z : k < inside_end ps (suc end) = q.1 in later k (o.inner k i (omega arith, omega arith)) y;
        })
      where
        later : (k : ℕ) → Member k (ends (beside (process ss end) ps)) → suc end ≤ k → Member k (ends ps)
        later k (here q) l = let y : k ≡ end = q in absurd (omega arith)
        later k (there m) l = m

  process_tops : (ps : Processes) (f c : ℕ) → InsidePlaced ps f → InsideIo ps f c → ProcessTopsAt ps
  process_tops no_process f c h io = tt
  process_tops (beside (process ss end) ps) f c h io =
      (all_fresh ss f end (suc c) h.0 (body_io ss end ps f c h io), process_tops ps (suc end) _ h.2 (rest_inside_io ss end ps f c h io))

  same_locs : (ss : Statements) (l own f : ℕ) → l ≡ own → AmongPlaced ss own f → SameLocs ss l
  same_locs no_statement l own f e h = tt
  same_locs (statement s ss) l own f e h = (own_loc s own f h.0 ∙ sym e, same_locs ss l own _ e h.1)

  head_ok : (o : ℕ) (ss : Statements) (l own f : ℕ) → l ≡ own → HeadPlaced ss own f → HeadOk (stated o l (block ss))
  head_ok o no_statement l own f e h = h
  head_ok o (statement s ss) l own f e h = own_loc s own f h.0 ∙ sym e

  not_empty : (ps : Processes) (o l : ℕ) → SomeProcess ps → (o' l' : ℕ) → stated o l (cooperate ps) ≡ stated o' l' (cooperate no_process) → ⊥
  not_empty no_process o l h o' l' e = h
  not_empty (beside (process ss end) ps) o l h o' l' e = cc

  -- the first statement's location is own
  head_out : (s : Statement) (own f n c g high : ℕ) → own < f → f ≤ g → IsPlaced s own f → location_end s f ≤ g → Member x (spots s n c) → Out g high
  head_out s own f n c g high b l h le m =
      let w = range s own f n c h x m in
      record {
        own = λ q. let y : g ≤ location x.stmt = q.0 in either w.where_is (λ r. let z : location x.stmt ≡ own = r.0 in absurd (omega arith)) (λ r. let z : location x.stmt < location_end s f = r.1 in absurd (omega arith));
        inner = λ k i q. let y : g ≤ k = q.0 in let z : k < location_end s f = (w.inner k i).1 in absurd (omega arith);
      }

  abbrev Selects : List Spot → Type 0
  Selects all = (y : Spot) → Member y all → HeadsFit (action y.stmt)

  -- the rest of a block begins with a fresh location each
  rest_tops : (ss : Statements) (own f n c : ℕ) → HeadPlaced ss own f → own < f → Io (spots_along ss n c) f (head_end ss f) → (k : ℕ) (s : Statement) → nth ss (suc k) ≡ Some s → TopAt s
  rest_tops no_statement own f n c h b io k s q = cc
  rest_tops (statement s ss) own f n c h b io k r q =
      let g = location_end s f in
      let grow1 = grow s f in
      all_fresh ss g n (c + length (bodies s)) h.1 (rest_io s ss f g n c grow1 (head_out s own f (entry ss n) c g _ b grow1 h.0 (omega arith)) io) k r q

  -- a branch further on
  among_out : (ss : Statements) (own f n c a high : ℕ) → own < a → a ≤ high → high ≤ f → AmongPlaced ss own f → Member x (spots_among ss n c) → Out a high
  among_out ss own f n c a high b l g h m =
      let w = range_among ss own f n c h x m in
      record {
        own = λ q. let y : a ≤ location x.stmt = q.0 in let v : location x.stmt < high = q.1 in either w.where_is (λ r. let z : location x.stmt ≡ own = r.0 in absurd (omega arith)) (λ r. let z : f ≤ location x.stmt = r.0 in absurd (omega arith));
        inner = λ k i q. let y : k < high = q.1 in let z : f ≤ k = (w.inner k i).0 in absurd (omega arith);
      }

  pick : {z y : Spot} {all : List Spot} {A : Type 0} → Member y (z ∷ all) → (y ≡ z → A) → (Member y all → A) → A
  pick (here q) f g = f q
  pick (there m) f g = g m

  coop_io : (o l : ℕ) (ps : Processes) (own f n c : ℕ) → IsPlaced (stated o l (cooperate ps)) own f → own < f → Io (spots (stated o l (cooperate ps)) n c) f (inside_end ps f) → InsideIo ps f c
  unfolding InsideIo
  coop_io o l ps own f n c h b (inl (here q)) = inr record {
    own = λ r. let y : location x.stmt ≡ own = ap (λ z. location z.stmt) q ∙ h.0 in let z : f ≤ location x.stmt = r.0 in absurd (omega arith);
    inner = λ k i r. subst (λ z. Member k (ends (children_of (action z.stmt)))) q i;
  }
  coop_io o l ps own f n c h b (inl (there m)) = inl m
  coop_io o l ps own f n c h b (inr u) = inr record { own = u.own; inner = λ k i r. absurd (u.inner k i r) }

  coop_good : (o l : ℕ) (ps : Processes) (own f n c : ℕ) → IsPlaced (stated o l (cooperate ps)) own f → own < f → Io (spots (stated o l (cooperate ps)) n c) f (inside_end ps f) → Good (at_spot (stated o l (cooperate ps)) n c)
  coop_good o l ps own f n c h b io = record {
    head = tt;
    top = process_tops ps f c h.1.1 (coop_io o l ps own f n c h b io);
    apart = λ k i. apart_in io k i;
    once = λ k i j. once_in io k i j;
    span = (f, spans_of ps f c h.1.1);
    some = λ o' l' e. not_empty ps o l h.1.0 o' l' e;
  }
    where
      apart_in : Io (spots (stated o l (cooperate ps)) n c) f (inside_end ps f) → (k : ℕ) → Member k (ends ps) → location x.stmt ≡ k → ⊥
      apart_in (inl (here q)) k i e =
          let y : location x.stmt ≡ own = ap (λ z. location z.stmt) q ∙ h.0 in let z = mem_above ps f h.1.1 k i in absurd (omega arith)
      apart_in (inl (there m)) k i e = (inside_apart ps f c h.1.1 x k m i).0 e
      apart_in (inr u) k i e = u.own (subst (Between f (inside_end ps f)) (sym e) (inside_ends ps f h.1.1 k i))

      once_in : Io (spots (stated o l (cooperate ps)) n c) f (inside_end ps f) → (k : ℕ) → Member k (ends ps) → Member k (ends (children_of (action x.stmt))) → occurrence x.stmt ≡ o
      once_in (inl (here q)) k i j = ap (λ z. occurrence z.stmt) q
      once_in (inl (there m)) k i j = absurd ((inside_apart ps f c h.1.1 x k m i).1 j)
      once_in (inr u) k i j = absurd (u.inner k j (inside_ends ps f h.1.1 k i))

  mutual
    walk : (s : Statement) (own f n c : ℕ) → IsPlaced s own f → own < f → Io (spots s n c) f (location_end s f) → TopAt s ⊎ NoLoop s → Selects (spots s n c) → (y : Spot) → Member y (spots s n c) → Good y
    walk (stated o l (if_then e s)) own f n c h b io t sel y (here q) =
        let io' = tail_io _ _ f _ io (λ r. out_self _ n c own f _ r h.0 b refl) in
        childless _ n c y q tt (fresh_top s f n c h.1 io') refl (λ o l e. cc)
    walk (stated o l (if_then e s)) own f n c h b io t sel y (there m) =
        let io' = tail_io _ _ f _ io (λ r. out_self _ n c own f _ r h.0 b refl) in
        walk s f (suc f) n c h.1 (omega arith) (inner_io s f n c io') (inl (fresh_top s f n c h.1 io')) (λ y i. sel y (there i)) y m
    walk (stated o l (if_else e s r)) own f n c h b io t sel y m =
        let g = location_end s (suc f) in
        let grow1 = grow s (suc f) in let grow2 = grow r (suc g) in
        let io' = tail_io _ _ f _ io (λ r. out_self _ n c own f _ r h.0 b refl) in
        let d = c + length (bodies s) in
        let io1 : Io (spots s n c) f g = either io'
        (λ m. either (member_cases (spots s n c) m) (λ m. inl m) (λ m. inr (out_behind f g g _ (omega arith) (to_span _ x g _ grow2 (range r g (suc g) n d h.1.1 x m)))))
        (λ o. inr (narrow f _ f g (omega arith) (omega arith) o)) in
        let io2 : Io (spots r n d) g (location_end r (suc g)) = either io'
        (λ m. either (member_cases (spots s n c) m) (λ m. inr (out_before g _ f g (omega arith) (to_span _ x f g grow1 (range s f (suc f) n c h.1.0 x m)))) (λ m. inl m))
        (λ o. inr (narrow f _ g _ (omega arith) (omega arith) o)) in
        let top1 = fresh_top s f n c h.1.0 io1 in
        let top2 = fresh_top r g n d h.1.1 io2 in
        pick m
        (λ q. childless _ n c y q tt (top1, top2) refl (λ o l e. cc))
        (λ m. either (member_cases (spots s n c) m)
        (λ m. walk s f (suc f) n c h.1.0 (omega arith) (inner_io s f n c io1) (inl top1) (λ y i. sel y (there (member_left _ i))) y m)
        (λ m. walk r g (suc g) n d h.1.1 (omega arith) (inner_io r g n d io2) (inl top2) (λ y i. sel y (there (member_right (spots s n c) i))) y m))
    walk (stated o l (while_do e s)) own f n c h b io t sel y (here q) =
        let io' = tail_io _ _ f _ io (λ r. out_self _ n c own f _ r h.0 b refl) in
        childless _ n c y q tt (either t (λ t. t) (λ z. absurd z), fresh_top s f l c h.1 io') refl (λ o l e. cc)
    walk (stated o l (while_do e s)) own f n c h b io t sel y (there m) =
        let io' = tail_io _ _ f _ io (λ r. out_self _ n c own f _ r h.0 b refl) in
        walk s f (suc f) l c h.1 (omega arith) (inner_io s f l c io') (inl (fresh_top s f l c h.1 io')) (λ y i. sel y (there i)) y m
    walk (stated o l (block ss)) own f n c h b io t sel y (here q) =
        let io' = tail_io _ _ f _ io (λ r. out_self _ n c own f _ r h.0 b refl) in
        childless _ n c y q (head_ok o ss l own f h.0 h.1) (rest_tops ss own f n c h.1 b io') refl (λ o l e. cc)
    walk (stated o l (block ss)) own f n c h b io t sel y (there m) =
        let io' = tail_io _ _ f _ io (λ r. out_self _ n c own f _ r h.0 b refl) in
        walk_head ss l own f n c h.0 h.1 b io' t (λ y i. sel y (there i)) y m
    walk (stated o l (select ss)) own f n c h b io t sel y (here q) = childless _ n c y q (same_locs ss l own f h.0 h.1) tt refl (λ o l e. cc)
    walk (stated o l (select ss)) own f n c h b io t sel y (there m) =
        let io' = tail_io _ _ f _ io (λ r. out_self _ n c own f _ r h.0 b refl) in
        walk_among ss own f n c h.1 b io' (sel _ (here refl)) (λ y i. sel y (there i)) y m
    walk (stated o l (cooperate ps)) own f n c h b io t sel y (here q) = subst Good (sym q) (coop_good o l ps own f n c h b io)
    walk (stated o l (cooperate ps)) own f n c h b io t sel y (there m) =
        walk_inside ps f c h.1.1 (coop_io o l ps own f n c h b io) (λ y i. sel y (there i)) y m
    walk (stated o l skip) own f n c h b io t sel y (here q) = childless _ n c y q tt tt refl (λ o l e. cc)
    walk (stated o l a) own f n c h b io t sel y (here q) = childless _ n c y q tt tt refl (λ o l e. cc)
    walk (stated o l a) own f n c h b io t sel y (there m) = member_none m

    walk_head : (ss : Statements) (l own f n c : ℕ) → l ≡ own → HeadPlaced ss own f → own < f → Io (spots_along ss n c) f (head_end ss f) → ((IsActing x.stmt → location x.stmt ≡ l → Member x.stmt (firsts_along ss)) ⊎ NoLoopFirst ss) → Selects (spots_along ss n c) → (y : Spot) → Member y (spots_along ss n c) → Good y
    walk_head no_statement l own f n c e h b io t sel y m = member_none m
    walk_head (statement s ss) l own f n c e h b io t sel y m =
        let g = location_end s f in
        let grow1 = grow s f in
        let same : location s ≡ l = own_loc s own f h.0 ∙ sym e in
        either (member_cases (spots s (entry ss n) c) m)
        (λ m. walk s own f (entry ss n) c h.0 b (first_io s ss f n c h.1 io) (either t (λ t. inl (λ a q. t a (q ∙ same))) (λ z. inr z)) (λ y i. sel y (member_left _ i)) y m)
        (λ m. walk_along ss g n _ h.1 (rest_io s ss f g n c grow1 (head_out s own f (entry ss n) c g _ b grow1 h.0 (omega arith)) io) (λ y i. sel y (member_right (spots s (entry ss n) c) i)) y m)

    walk_along : (ss : Statements) (f n c : ℕ) → AlongPlaced ss f → Io (spots_along ss n c) f (along_end ss f) → Selects (spots_along ss n c) → (y : Spot) → Member y (spots_along ss n c) → Good y
    walk_along no_statement f n c h io sel y m = member_none m
    walk_along (statement s ss) f n c h io sel y m =
        let g = location_end s (suc f) in
        let grow1 = grow s (suc f) in
        let b = grow_along ss g in
        let io1 : Io (spots s (entry ss n) c) f g = either io
        (λ m. either (member_cases (spots s (entry ss n) c) m) (λ m. inl m) (λ m. inr (out_behind f g g _ (omega arith) (range_along ss g n _ h.1 x m))))
        (λ o. inr (narrow f _ f g (omega arith) b o)) in
        either (member_cases (spots s (entry ss n) c) m)
        (λ m. walk s f (suc f) (entry ss n) c h.0 (omega arith) (inner_io s f (entry ss n) c io1) (inl (fresh_top s f (entry ss n) c h.0 io1)) (λ y i. sel y (member_left _ i)) y m)
        (λ m. walk_along ss g n _ h.1 (rest_io s ss f g n c (omega arith) (λ m. out_before g _ f g (omega arith) (to_span _ x f g grow1 (range s f (suc f) _ c h.0 x m))) io) (λ y i. sel y (member_right (spots s (entry ss n) c) i)) y m)

    walk_among : (ss : Statements) (own f n c : ℕ) → AmongPlaced ss own f → own < f → Io (spots_among ss n c) f (among_end ss f) → NoLoops ss → Selects (spots_among ss n c) → (y : Spot) → Member y (spots_among ss n c) → Good y
    walk_among no_statement own f n c h b io t sel y m = member_none m
    walk_among (statement s ss) own f n c h b io t sel y m =
        let g = location_end s f in
        let grow1 = grow s f in
        let grow2 = grow_among ss g in
        let d = c + length (bodies s) in
        let io1 : Io (spots s n c) f g = either io
        (λ m. either (member_cases (spots s n c) m) (λ m. inl m) (λ m. inr (among_out ss own g n d f g b (omega arith) (omega arith) h.1 m)))
        (λ o. inr (narrow f _ f g (omega arith) grow2 o)) in
        let io2 : Io (spots_among ss n d) g (among_end ss g) = either io
        (λ m. either (member_cases (spots s n c) m) (λ m. inr (head_out s own f n c g _ b grow1 h.0 (omega arith) m)) (λ m. inl m))
        (λ o. inr (narrow f _ g _ grow1 (omega arith) o)) in
        either (member_cases (spots s n c) m)
        (λ m. walk s own f n c h.0 b io1 (inr t.0) (λ y i. sel y (member_left _ i)) y m)
        (λ m. walk_among ss own g n d h.1 (omega arith) io2 t.1 (λ y i. sel y (member_right (spots s n c) i)) y m)

    walk_inside : (ps : Processes) (f c : ℕ) → InsidePlaced ps f → InsideIo ps f c → Selects (spots_inside ps c) → (y : Spot) → Member y (spots_inside ps c) → Good y
    walk_inside no_process f c h io sel y m = member_none m
    walk_inside (beside (process ss end) ps) f c h io sel y m =
        either (member_cases (spots_along ss end (suc c)) m)
        (λ m. walk_along ss f end (suc c) h.0 (body_io ss end ps f c h io) (λ y i. sel y (member_left _ i)) y m)
        (λ m. walk_inside ps (suc end) _ h.2 (rest_inside_io ss end ps f c h io) (λ y i. sel y (member_right (spots_along ss end (suc c)) i)) y m)

-- an end of a body is one of the processes', or of the children of a cooperation
module _ (b : Body) where
  pub record Ended_in (all : List Spot) : Type 0 where
    pub coop : Spot
    pub is_in : Member coop all
    pub end_in : Member b.1 (ends (children_of (action coop.stmt)))

  up : {xs ys : List Spot} → ((y : Spot) → Member y xs → Member y ys) → Ended_in xs → Ended_in ys
  up f r = record { coop = r.coop; is_in = f _ r.is_in; end_in = r.end_in }

  mutual
    ended : (s : Statement) (n c : ℕ) → Member b (bodies s) → Ended_in (spots s n c)
    ended (stated o l (cooperate ps)) n c m =
        either (ended_inside ps c m) (λ i. record { coop = at_spot (stated o l (cooperate ps)) n c; is_in = here refl; end_in = i }) (λ r. up (λ y m. there m) r)
    ended (stated o l (if_then t s)) n c m = up (λ y m. there m) (ended s n c m)
    ended (stated o l (if_else t s r)) n c m =
        either (member_cases (bodies s) m) (λ m. up (λ y m. there (member_left _ m)) (ended s n c m)) (λ m. up (λ y m. there (member_right (spots s n c) m)) (ended r n _ m))
    ended (stated o l (while_do t s)) n c m = up (λ y m. there m) (ended s l c m)
    ended (stated o l (block ss)) n c m = up (λ y m. there m) (ended_along ss n c m)
    ended (stated o l (select ss)) n c m = up (λ y m. there m) (ended_among ss n c m)
    ended (stated o l skip) n c m = member_none m
    ended (stated o l _) n c m = member_none m

    ended_along : (ss : Statements) (n c : ℕ) → Member b (bodies_in ss) → Ended_in (spots_along ss n c)
    ended_along no_statement n c m = member_none m
    ended_along (statement s ss) n c m =
        either (member_cases (bodies s) m) (λ m. up (λ y m. member_left _ m) (ended s (entry ss n) c m)) (λ m. up (λ y m. member_right (spots s (entry ss n) c) m) (ended_along ss n _ m))

    ended_among : (ss : Statements) (n c : ℕ) → Member b (bodies_in ss) → Ended_in (spots_among ss n c)
    ended_among no_statement n c m = member_none m
    ended_among (statement s ss) n c m =
        either (member_cases (bodies s) m) (λ m. up (λ y m. member_left _ m) (ended s n c m)) (λ m. up (λ y m. member_right (spots s n c) m) (ended_among ss n _ m))

    ended_inside : (ps : Processes) (c : ℕ) → Member b (bodies_of ps) → Member b.1 (ends ps) ⊎ Ended_in (spots_inside ps c)
    ended_inside no_process c m = member_none m
    ended_inside (beside (process ss end) ps) c (here q) = inl (here (ap (λ z. z.1) q))
    ended_inside (beside (process ss end) ps) c (there m) =
        either (member_cases (bodies_in ss) m)
        (λ m. inr (up (λ y m. member_left _ m) (ended_along ss end (suc c) m)))
        (λ m. either (ended_inside ps _ m) (λ i. inl (there i)) (λ r. inr (up (λ y m. member_right (spots_along ss end (suc c)) m) r)))

top_of : (p : Processes) (s : Statement) → ((x : Spot) → Member x (all_spots p) → TopAt p x s) → Top p s
top_of p s f x m = f x m

tops_of : (p : Processes) (ss : Statements) → ((x : Spot) → Member x (all_spots p) → AllTopAt p x ss) → AllTop p ss
tops_of p ss f k s q x m = f x m k s q

tops_of_inside : (p : Processes) (ps : Processes) → ((x : Spot) → Member x (all_spots p) → ProcessTopsAt p x ps) → ProcessTops p ps
tops_of_inside p no_process f = tt
tops_of_inside p (beside (process ss end) ps) f = (tops_of p ss (λ x m. (f x m).0), tops_of_inside p ps (λ x m. (f x m).1))

ok_of : (p : Processes) (s : Statement) → ((x : Spot) → Member x (all_spots p) → TopOkAt p x s) → TopOk p s
ok_of p (stated o l (if_then t s)) f = λ x m. f x m
ok_of p (stated o l (if_else t s r)) f = (λ x m. (f x m).0, λ x m. (f x m).1)
ok_of p (stated o l (while_do t s)) f = (λ x m. (f x m).0, λ x m. (f x m).1)
ok_of p (stated o l (block ss)) f = λ k s q x m. f x m k s q
ok_of p (stated o l (cooperate ps)) f = tops_of_inside p ps f
ok_of p (stated o l skip) f = tt
ok_of p (stated o l _) f = tt

module _ (p : Processes) (well : WellFormed p) where
  good : (x y : Spot) → Member x (all_spots p) → Member y (all_spots p) → Good p x y
  unfolding InsideIo
  good x y m n = walk_inside p x p 0 0 well.placed (inl m) well.heads y n

  outer_tops : (x : Spot) → Member x (all_spots p) → ProcessTopsAt p x p
  unfolding InsideIo
  outer_tops x m = process_tops p x p 0 0 well.placed (inl m)

  pub layout_of : Layout p
  layout_of = record {
    numbered = well.numbered;
    heads = λ s n c m. (good _ _ m m).head;
    tops = λ s n c m. ok_of p s (λ x i. (good x _ i m).top);
    process_tops = tops_of_inside p p outer_tops;
  }

  pub ends_of : Ends p
  ends_of = record {
    apart = λ x y k m n i e. (good x y m n).apart k i e;
    once = λ x y k m n i j. (good x y m n).once k j i;
    outer = λ x k m i j. (inside_apart p 0 0 well.placed x k m j).1 i;
    spans = λ o l ps e c m. (good _ _ m m).span;
    spans_outer = spans_of p 0 0 well.placed;
    some_process = λ o l e c m. (good _ _ m m).some o l refl;
  }

  pub apart_of : Apart p
  apart_of = record {
    apart = λ x b c m at e.
        either (ended_inside b p 0 (at_member b (bodies_of p) c at))
        (λ i. (inside_apart p 0 0 well.placed x b.1 m i).0 e)
        (λ r. (good x r.coop m r.is_in).apart b.1 r.end_in e);
  }
