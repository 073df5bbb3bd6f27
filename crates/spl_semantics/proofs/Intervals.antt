-- The locations of a part of the text are an interval, but for the one that it takes over.
use Rattle.std.proofs.Common.{◌≡◌, ℕ, suc, ◌+◌, ◌<◌, ◌≤◌, List, [], length, refl, sym, subst, ◌⊎◌, inl, inr, arith}
use Rattle.st_program.specs.Tree.{Statement, stated, Action, skip, if_then, if_else, while_do, block, select, cooperate, Statements, no_statement, statement, process, Processes, no_process, beside, location, action}
use Rattle.st_program.specs.Member.{Member, here, there}
use Rattle.st_program.specs.Spots.{entry, bodies_in, Spot, at_spot, spots, spots_along, spots_among, spots_inside}
use Rattle.st_program.specs.Locations.{location_end, within_end, head_end, along_end, among_end, inside_end, IsPlaced, HeadPlaced, AlongPlaced, AmongPlaced, InsidePlaced}
use Rattle.spl_semantics.specs.Control.{children_of, ends}
use Rattle.spl_semantics.proofs.Members.{member_none, member_left, member_right, member_cases}
use Rattle.basic_laws.proofs.Types.{either}
use Rattle.spl_semantics.proofs.Fits.{IsActing, firsts, firsts_along, firsts_among}
use Rattle.spl_semantics.proofs.Ended.{Between, InSpan, Spans}

mutual
  pub grow : (s : Statement) (f : ℕ) → f ≤ location_end s f
  grow (stated o l a) f = grow_within a f

  pub grow_within : (a : Action) (f : ℕ) → f ≤ within_end a f
  grow_within (if_then t y) f = let h = grow y (suc f) in omega arith
  grow_within (if_else t y n) f = let h = grow y (suc f) in let g = grow n (suc (location_end y (suc f))) in omega arith
  grow_within (while_do t b) f = let h = grow b (suc f) in omega arith
  grow_within (block ss) f = grow_head ss f
  grow_within (select ss) f = grow_among ss f
  grow_within (cooperate ps) f = grow_inside ps f
  grow_within skip f = omega arith
  grow_within _ f = omega arith

  pub grow_head : (ss : Statements) (f : ℕ) → f ≤ head_end ss f
  grow_head no_statement f = omega arith
  grow_head (statement s ss) f = let h = grow s f in let g = grow_along ss (location_end s f) in omega arith

  pub grow_along : (ss : Statements) (f : ℕ) → f ≤ along_end ss f
  grow_along no_statement f = omega arith
  grow_along (statement s ss) f = let h = grow s (suc f) in let g = grow_along ss (location_end s (suc f)) in omega arith

  pub grow_among : (ss : Statements) (f : ℕ) → f ≤ among_end ss f
  grow_among no_statement f = omega arith
  grow_among (statement s ss) f = let h = grow s f in let g = grow_among ss (location_end s f) in omega arith

  pub grow_inside : (ps : Processes) (f : ℕ) → f ≤ inside_end ps f
  grow_inside no_process f = omega arith
  grow_inside (beside (process ss end) ps) f = let h = grow_along ss f in let g = grow_inside ps (suc (along_end ss f)) in omega arith

pub own_loc : (s : Statement) (own f : ℕ) → IsPlaced s own f → location s ≡ own
own_loc (stated o l a) own f h = h.0

-- the first of a list that a statement can begin with, and its location is own; or a location in between
pub record Inside_of (firsts : List Statement) (y : Spot) (own low high : ℕ) : Type 0 where
  pub where_is : ((location y.stmt ≡ own) × (IsActing y.stmt → Member y.stmt firsts)) ⊎ Between low high (location y.stmt)
  pub inner : (k : ℕ) → Member k (ends (children_of (action y.stmt))) → Between low high k

-- a statement with no children in its own place
pub plain_inside : (s : Statement) (y : Spot) (n c own low high : ℕ) → y ≡ at_spot s n c → location s ≡ own → ends (children_of (action s)) ≡ [] → (IsActing s → Member s (firsts s)) → Inside_of (firsts s) y own low high
plain_inside s y n c own low high q l e g =
    subst (λ z. Inside_of (firsts s) z own low high) (sym q) record { where_is = inl (l, g); inner = λ k i. member_none (subst (Member k) e i) }

-- a fresh location is in between
pub fresh_inside : (fs gs : List Statement) (y : Spot) (own f low high : ℕ) → low ≤ f → suc f ≤ high → Inside_of fs y f (suc f) high → Inside_of gs y own low high
fresh_inside fs gs y own f low high a b h = record {
  where_is = inr (either h.where_is (λ q. let e : location y.stmt ≡ f = q.0 in (omega arith, omega arith)) (λ q. let x : suc f ≤ location y.stmt = q.0 in (omega arith, q.1)));
  inner = λ k i. let q = h.inner k i in let x : suc f ≤ k = q.0 in (omega arith, q.1);
}

pub wider : (fs gs : List Statement) (y : Spot) (own low high low' high' : ℕ) → low' ≤ low → high ≤ high' → ((s : Statement) → Member s fs → Member s gs) → Inside_of fs y own low high → Inside_of gs y own low' high'
wider fs gs y own low high low' high' a b f h = record {
  where_is = either h.where_is (λ q. inl (q.0, λ t. f _ (q.1 t))) (λ q. let x : low ≤ location y.stmt = q.0 in let z : location y.stmt < high = q.1 in inr (omega arith, omega arith));
  inner = λ k i. let q = h.inner k i in let x : low ≤ k = q.0 in let z : k < high = q.1 in (omega arith, omega arith);
}

pub span_wider : (y : Spot) (low high low' high' : ℕ) → low' ≤ low → high ≤ high' → InSpan y low high → InSpan y low' high'
span_wider y low high low' high' a b h = record {
  own = let q = h.own in let x : low ≤ location y.stmt = q.0 in let z : location y.stmt < high = q.1 in (omega arith, omega arith);
  inner = λ k i. let q = h.inner k i in let x : low ≤ k = q.0 in let z : k < high = q.1 in (omega arith, omega arith);
}

-- what is in between is in the span, whatever the first ones are
pub to_span : (fs : List Statement) (y : Spot) (f high : ℕ) → suc f ≤ high → Inside_of fs y f (suc f) high → InSpan y f high
to_span fs y f high b h =
    let g = fresh_inside fs fs y f f f high (omega arith) b h in
    record { own = either h.where_is (λ q. let e : location y.stmt ≡ f = q.0 in (omega arith, omega arith)) (λ q. let x : suc f ≤ location y.stmt = q.0 in (omega arith, q.1)); inner = g.inner }

pub of_span : (fs : List Statement) (y : Spot) (own low high : ℕ) → InSpan y low high → Inside_of fs y own low high
of_span fs y own low high h = record { where_is = inr h.own; inner = h.inner }

mutual
  pub range : (s : Statement) (own f n c : ℕ) → IsPlaced s own f → (y : Spot) → Member y (spots s n c) → Inside_of (firsts s) y own f (location_end s f)
  range (stated o l (if_then t s)) own f n c h y (there m) =
      fresh_inside (firsts s) _ y own f _ _ (omega arith) (grow s (suc f)) (range s f (suc f) n c h.1 y m)
  range (stated o l (if_else t s r)) own f n c h y (there m) =
      let g = location_end s (suc f) in
      let a = grow s (suc f) in let b = grow r (suc g) in
      either (member_cases (spots s n c) m)
      (λ m. of_span _ y own _ _ (span_wider y f g _ _ (omega arith) (omega arith) (to_span _ y f g a (range s f (suc f) n c h.1.0 y m))))
      (λ m. fresh_inside (firsts r) _ y own g _ _ (omega arith) b (range r g (suc g) n _ h.1.1 y m))
  range (stated o l (while_do t s)) own f n c h y (there m) =
      fresh_inside (firsts s) _ y own f _ _ (omega arith) (grow s (suc f)) (range s f (suc f) l c h.1 y m)
  range (stated o l (block ss)) own f n c h y (here q) = plain_inside _ y n c own _ _ q h.0 refl (λ t. absurd t)
  range (stated o l (block ss)) own f n c h y (there m) = range_head ss own f n c h.1 y m
  range (stated o l (select ss)) own f n c h y (here q) = plain_inside _ y n c own _ _ q h.0 refl (λ t. absurd t)
  range (stated o l (select ss)) own f n c h y (there m) = range_among ss own f n c h.1 y m
  range (stated o l (cooperate ps)) own f n c h y (here q) =
      subst (λ z. Inside_of (firsts (stated o l (cooperate ps))) z own f (inside_end ps f)) (sym q) record { where_is = inl (h.0, λ t. here refl); inner = λ k i. inside_ends ps f h.1.1 k i }
  range (stated o l (cooperate ps)) own f n c h y (there m) = of_span _ y own _ _ (range_inside ps f c h.1.1 y m)
  range (stated o l skip) own f n c h y (here q) = plain_inside _ y n c own _ _ q h.0 refl (λ t. here refl)
  range (stated o l a) own f n c h y (here q) = plain_inside _ y n c own _ _ q h.0 refl (λ t. here refl)
  range (stated o l a) own f n c h y (there m) = member_none m

  pub range_head : (ss : Statements) (own f n c : ℕ) → HeadPlaced ss own f → (y : Spot) → Member y (spots_along ss n c) → Inside_of (firsts_along ss) y own f (head_end ss f)
  range_head no_statement own f n c h y m = member_none m
  range_head (statement s ss) own f n c h y m =
      let a = grow s f in let b = grow_along ss (location_end s f) in
      either (member_cases (spots s (entry ss n) c) m)
      (λ m. wider (firsts s) _ y own f (location_end s f) _ _ (omega arith) b (λ s m. m) (range s own f _ c h.0 y m))
      (λ m. of_span _ y own _ _ (span_wider y (location_end s f) _ _ _ a (omega arith) (range_along ss (location_end s f) n _ h.1 y m)))

  pub range_along : (ss : Statements) (f n c : ℕ) → AlongPlaced ss f → (y : Spot) → Member y (spots_along ss n c) → InSpan y f (along_end ss f)
  range_along no_statement f n c h y m = member_none m
  range_along (statement s ss) f n c h y m =
      let g = location_end s (suc f) in
      let a = grow s (suc f) in let b = grow_along ss g in
      either (member_cases (spots s (entry ss n) c) m)
      (λ m. span_wider y f g _ _ (omega arith) b (to_span _ y f g a (range s f (suc f) _ c h.0 y m)))
      (λ m. span_wider y g _ _ _ (omega arith) (omega arith) (range_along ss g n _ h.1 y m))

  pub range_among : (ss : Statements) (own f n c : ℕ) → AmongPlaced ss own f → (y : Spot) → Member y (spots_among ss n c) → Inside_of (firsts_among ss) y own f (among_end ss f)
  range_among no_statement own f n c h y m = member_none m
  range_among (statement s ss) own f n c h y m =
      let g = location_end s f in
      let a = grow s f in let b = grow_among ss g in
      either (member_cases (spots s n c) m)
      (λ m. wider (firsts s) _ y own f g _ _ (omega arith) b (λ s m. member_left _ m) (range s own f n c h.0 y m))
      (λ m. wider (firsts_among ss) _ y own g _ _ _ a (omega arith) (λ z m. member_right (firsts s) m) (range_among ss own g n _ h.1 y m))

  pub range_inside : (ps : Processes) (f c : ℕ) → InsidePlaced ps f → (y : Spot) → Member y (spots_inside ps c) → InSpan y f (inside_end ps f)
  range_inside no_process f c h y m = member_none m
  range_inside (beside (process ss end) ps) f c h y m =
      let g = along_end ss f in
      let a = grow_along ss f in let b = grow_inside ps (suc g) in
      either (member_cases (spots_along ss end (suc c)) m)
      (λ m. span_wider y f g _ _ (omega arith) (omega arith) (range_along ss f end _ h.0 y m))
      (λ m. span_wider y (suc g) _ _ _ (omega arith) (omega arith) (range_inside ps (suc g) _ (subst (λ z. InsidePlaced ps (suc z)) h.1 h.2) y m))

  pub inside_ends : (ps : Processes) (f : ℕ) → InsidePlaced ps f → (k : ℕ) → Member k (ends ps) → Between f (inside_end ps f) k
  inside_ends no_process f h k m = member_none m
  inside_ends (beside (process ss end) ps) f h k (here q) =
      let e : end ≡ along_end ss f = h.1 in let a = grow_along ss f in let b = grow_inside ps (suc (along_end ss f)) in
      (omega arith, omega arith)
  inside_ends (beside (process ss end) ps) f h k (there m) =
      let a = grow_along ss f in
      let i = inside_ends ps (suc (along_end ss f)) (subst (λ z. InsidePlaced ps (suc z)) h.1 h.2) k m in
      let x : suc (along_end ss f) ≤ k = i.0 in (omega arith, i.1)

-- children of one cooperation stand one after another
pub spans_of : (ps : Processes) (f c : ℕ) → InsidePlaced ps f → Spans ps c f
spans_of no_process f c h = tt
spans_of (beside (process ss end) ps) f c h =
    let e : end ≡ along_end ss f = h.1 in
    let a = grow_along ss f in
    (omega arith, λ y m. subst (InSpan y f) (sym e) (range_along ss f end _ h.0 y m), spans_of ps (suc end) _ h.2)

pub mem_above : (ps : Processes) (f : ℕ) → InsidePlaced ps f → (k : ℕ) → Member k (ends ps) → f ≤ k
mem_above ps f h k m = (inside_ends ps f h k m).0

-- what stands in the children has none of their ends
pub inside_apart : (ps : Processes) (f c : ℕ) → InsidePlaced ps f → (x : Spot) (k : ℕ) → Member x (spots_inside ps c) → Member k (ends ps) → (location x.stmt ≡ k → ⊥) × (Member k (ends (children_of (action x.stmt))) → ⊥)
inside_apart no_process f c h x k m i = member_none m
inside_apart (beside (process ss end) ps) f c h x k m i =
    let e : end ≡ along_end ss f = h.1 in
    let ends_at : (k ≡ end) ⊎ (suc end ≤ k) = at_end i in
    either (member_cases (spots_along ss end (suc c)) m)
    (λ m.
    let w : InSpan x f end = subst (InSpan x f) (sym e) (range_along ss f end _ h.0 x m) in (
      λ q. let b : location x.stmt < end = w.own.1 in either ends_at (λ r. let z : k ≡ end = r in absurd (omega arith)) (λ r. let z : suc end ≤ k = r in absurd (omega arith)),
      λ j. let b : k < end = (w.inner k j).1 in either ends_at (λ r. let z : k ≡ end = r in absurd (omega arith)) (λ r. let z : suc end ≤ k = r in absurd (omega arith)),
    ))
    (λ m. in_rest (λ j. inside_apart ps (suc end) (suc c + length (bodies_in ss)) h.2 x k m j) m i)
  where
    at_end : Member k (ends (beside (process ss end) ps)) → (k ≡ end) ⊎ (suc end ≤ k)
    at_end (here q) = inl q
    at_end (there j) = inr (mem_above ps (suc end) h.2 k j)

    in_rest : (Member k (ends ps) → (location x.stmt ≡ k → ⊥) × (Member k (ends (children_of (action x.stmt))) → ⊥)) → Member x (spots_inside ps (suc c + length (bodies_in ss))) → Member k (ends (beside (process ss end) ps)) → (location x.stmt ≡ k → ⊥) × (Member k (ends (children_of (action x.stmt))) → ⊥)
    in_rest ih m (here q) =
        let w = range_inside ps (suc end) _ h.2 x m in
        (λ r. let a : suc end ≤ location x.stmt = w.own.0 in absurd (omega arith), λ j. let a : suc end ≤ k = (w.inner k j).0 in absurd (omega arith))
    in_rest ih m (there j) = ih j
