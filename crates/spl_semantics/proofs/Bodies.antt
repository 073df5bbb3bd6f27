-- The bodies of blocks and components, by their numbers.
use Rattle.std.proofs.Common.{◌≡◌, ℕ, zero, suc, ◌+◌, ◌-◌, true, false, List, [], ◌∷◌, ◌++◌, length, Some, refl, sym, ap, ◌∙◌, subst, arith}
use Rattle.std.specs.Prelude.{slice_get, nat_lt, if◌then◌else◌}
use Rattle.std.proofs.lemmas.Bool.{lt-ltb, le-ltb}
use Rattle.std.proofs.lemmas.Option.{slice_get_within}
use Rattle.st_program.specs.Tree.{Statement, stated, Action, skip, if_then, if_else, while_do, block, select, cooperate, Statements, no_statement, statement, process, Processes, no_process, beside, nth}
use Rattle.st_program.specs.Member.{Member, here, there}
use Rattle.st_program.specs.Spots.{entry, bodies, bodies_inside, bodies_in, bodies_of, Body, Spot, at_spot, spots, spots_within, spots_along, spots_among, spots_inside, all_spots, spot, IsNumbered, items_of, body}
use Rattle.st_program.specs.Residuals.{Done}
use Rattle.spl_semantics.specs.Going.{begin}
use Rattle.spl_semantics.specs.Control.{starts}
use Rattle.spl_semantics.proofs.Members.{member_none, member_left, member_right, member_cases}
use Rattle.spl_semantics.proofs.Texts.{Has, found, own_first, near, near_along, near_first, along_region}
use Rattle.basic_laws.proofs.Types.{either}
use Rattle.spl_semantics.proofs.Fits.{place_at, fronts_to, Top, ProcessTops, Layout, FitsAll, Body_in, join_at}

pub entry_is : (ss : Statements) (e : ℕ) → entry ss e ≡ place_at ss 0 e
entry_is no_statement e = refl
entry_is (statement s ss) e = refl

-- the k-th statement of a list stands there, with the next one behind it
pub along_item : (ss : Statements) (e c k : ℕ) (s : Statement) → nth ss k ≡ Some s → (d : ℕ) × Member (at_spot s (place_at ss (suc k) e) d) (spots_along ss e c) × Member (at_spot s (place_at ss (suc k) e) d) (near_along ss e c)
along_item no_statement e c k s q = cc
along_item (statement s ss) e c zero r q =
    let same : s ≡ r = cc in (
      c,
      member_left _ (subst (λ x. Member (at_spot x (place_at ss 0 e) c) (spots s (entry ss e) c)) same (subst (λ n. Member (at_spot s n c) (spots s (entry ss e) c)) (entry_is ss e) (own_first s (entry ss e) c))),
      member_left _ (subst (λ x. Member (at_spot x (place_at ss 0 e) c) (near s (entry ss e) c)) same (subst (λ n. Member (at_spot s n c) (near s (entry ss e) c)) (entry_is ss e) (near_first s (entry ss e) c))),
    )
along_item (statement s ss) e c (suc k) r q =
    let i = along_item ss e (c + length (bodies s)) k r q in (i.0, member_right (spots s (entry ss e) c) i.1, member_right (near s (entry ss e) c) i.2)

-- the items ys stand in xs from place c on
abbrev pub HasAt : {X : Type 0} → List X → ℕ → List X → Type 0
HasAt xs c [] = Unit {0}
HasAt xs c (y ∷ ys) = (slice_get xs c ≡ Some y) × HasAt xs (suc c) ys

pub has_front : {X : Type 0} (xs : List X) (c : ℕ) (ys zs : List X) → HasAt xs c (ys ++ zs) → HasAt xs c ys
has_front xs c [] zs h = tt
has_front xs c (y ∷ ys) zs h = (h.0, has_front xs (suc c) ys zs h.1)

pub has_back : {X : Type 0} (xs : List X) (c : ℕ) (ys zs : List X) → HasAt xs c (ys ++ zs) → HasAt xs (c + length ys) zs
has_back xs c [] zs h = let e : c ≡ c + 0 = omega arith in subst (λ k. HasAt xs k zs) e h
has_back xs c (y ∷ ys) zs h =
    let e : suc c + length ys ≡ c + length (y ∷ ys) = omega arith in
    subst (λ k. HasAt xs k zs) e (has_back xs (suc c) ys zs h.1)

pub has_all : {X : Type 0} (before ys : List X) → HasAt (before ++ ys) (length before) ys
has_all before [] = tt
has_all {X} before (y ∷ ys) = (at_seam before, subst (λ l. HasAt l (suc (length before)) ys) (regroup before) (subst (λ k. HasAt ((before ++ y ∷ []) ++ ys) k ys) (len before) (has_all (before ++ y ∷ []) ys)))
  where
    at_seam : (bs : List X) → slice_get (bs ++ y ∷ ys) (length bs) ≡ Some y
    at_seam [] = refl
    at_seam (b ∷ bs) = at_seam bs

    regroup : (bs : List X) → (bs ++ y ∷ []) ++ ys ≡ bs ++ y ∷ ys
    regroup [] = refl
    regroup (b ∷ bs) = ap (λ l. b ∷ l) (regroup bs)

    len : (bs : List X) → length (bs ++ y ∷ []) ≡ suc (length bs)
    len [] = refl
    len (b ∷ bs) = ap suc (len bs)

-- the bodies in a statement have the numbers from the one of its spot on
module _ (all : List Body) (x : Spot) where
  abbrev Own : Type 0
  Own = HasAt all x.before (bodies x.stmt)

  own_at : (s : Statement) (n c : ℕ) → HasAt all c (bodies s) → x ≡ at_spot s n c → Own
  own_at s n c h e = subst (λ y. HasAt all y.before (bodies y.stmt)) (sym e) h

  mutual
    own_in : (s : Statement) (n c : ℕ) → HasAt all c (bodies s) → Member x (spots s n c) → Own
    own_in (stated o l a) n c h (here e) = own_at _ n c h e
    own_in (stated o l a) n c h (there m) = own_within a l n c h m

    own_within : (a : Action) (l n c : ℕ) → HasAt all c (bodies_inside a) → Member x (spots_within a l n c) → Own
    own_within (if_then t s) l n c h m = own_in s n c h m
    own_within (if_else t s r) l n c h m =
        either (member_cases (spots s n c) m) (own_in s n c (has_front all c (bodies s) (bodies r) h)) (own_in r n _ (has_back all c (bodies s) (bodies r) h))
    own_within (while_do t s) l n c h m = own_in s l c h m
    own_within (block ss) l n c h m = own_along ss n c h m
    own_within (select ss) l n c h m = own_among ss n c h m
    own_within (cooperate ps) l n c h m = own_inside ps c h m
    own_within skip l n c h m = member_none m
    own_within _ l n c h m = member_none m

    own_along : (ss : Statements) (n c : ℕ) → HasAt all c (bodies_in ss) → Member x (spots_along ss n c) → Own
    own_along no_statement n c h m = member_none m
    own_along (statement s ss) n c h m =
        either (member_cases (spots s (entry ss n) c) m) (own_in s _ c (has_front all c (bodies s) (bodies_in ss) h)) (own_along ss n _ (has_back all c (bodies s) (bodies_in ss) h))

    own_among : (ss : Statements) (n c : ℕ) → HasAt all c (bodies_in ss) → Member x (spots_among ss n c) → Own
    own_among no_statement n c h m = member_none m
    own_among (statement s ss) n c h m =
        either (member_cases (spots s n c) m) (own_in s _ c (has_front all c (bodies s) (bodies_in ss) h)) (own_among ss n _ (has_back all c (bodies s) (bodies_in ss) h))

    own_inside : (ps : Processes) (c : ℕ) → HasAt all c (bodies_of ps) → Member x (spots_inside ps c) → Own
    own_inside no_process c h m = member_none m
    own_inside (beside (process ss end) ps) c h m =
        either (member_cases (spots_along ss end (suc c)) m) (own_along ss _ _ (has_front all (suc c) (bodies_in ss) (bodies_of ps) h.1)) (own_inside ps _ (has_back all (suc c) (bodies_in ss) (bodies_of ps) h.1))

pub own_bodies : (p : Processes) (x : Spot) → Member x (all_spots p) → HasAt (bodies_of p) x.before (bodies x.stmt)
own_bodies p x m = own_inside (bodies_of p) x p 0 (has_all [] (bodies_of p)) m

-- the body of a component, by its number
pub body_of_component : (p : Processes) (c : ℕ) (x : Body) → slice_get (bodies_of p) c ≡ Some x → body p (length (all_spots p) + c) ≡ Some x
body_of_component p c x e =
    let m = length (all_spots p) in
    let past : nat_lt (m + c) m ≡ false = le-ltb (m + c) m (omega arith) in
    let k : m + c - m ≡ c = omega arith in
    ap (λ b. if b then items_of (spot p (m + c)) else slice_get (bodies_of p) (m + c - m)) past ∙ ap (slice_get (bodies_of p)) k ∙ e

pub body_of_block : (p : Processes) (numbered : IsNumbered p) (o l : ℕ) (ss : Statements) (e c : ℕ) → Has p (stated o l (block ss)) e c → body p o ≡ Some (ss, e)
body_of_block p numbered o l ss e c h =
    let f = found p numbered (at_spot (stated o l (block ss)) e c) h in
    let within : nat_lt o (length (all_spots p)) ≡ true = lt-ltb o _ (slice_get_within (all_spots p) o _ f) in
    ap (λ b. if b then items_of (spot p o) else slice_get (bodies_of p) (o - length (all_spots p))) within ∙ ap items_of f

-- the items of a list that stands in a part of the text
pub in_body : (p : Processes) (all own : List Spot) (ss : Statements) (e c : ℕ) → ((y : Spot) → Member y (spots_along ss e c) → Member y all) → ((y : Spot) → Member y (near_along ss e c) → Member y own) → ((k : ℕ) (s : Statement) → nth ss (suc k) ≡ Some s → Top p s) → Body_in p all own ss e
in_body p all own ss e c f g t = record { item = λ k s q. let i = along_item ss e c k s q in (i.0, f _ i.1, g _ i.2); top = t }

module _ (p : Processes) (layout : Layout p) where
  -- children at the beginning of their bodies
  pub begin_at : (ps : Processes) (c : ℕ) → HasAt (bodies_of p) c (bodies_of ps) → ProcessTops p ps → ((y : Spot) → Member y (spots_inside ps c) → Member y (all_spots p)) → FitsAll p (begin ps (length (all_spots p) + c)) ps c × (fronts_to (begin ps (length (all_spots p) + c)) p ps ≡ starts ps)
  begin_at no_process c h t sub = (tt, refl)
  begin_at (beside (process ss end) ps) c h t sub =
      let m = length (all_spots p) in
      let all = spots_along ss end (suc c) in
      let own = near_along ss end (suc c) in
      let region = along_region p ss end (suc c) (λ y i. sub y (member_left _ i)) in
      let b = body_of_component p c (ss, end) h.0 in
      let items = in_body p all own ss end (suc c) (λ y i. i) (λ y i. i) (λ k s q. t.0 (suc k) s q) in
      let a = join_at p layout all own region ss end (m + c) b items 0 (t.0 0) Done tt in
      let n : m + (suc c + length (bodies_in ss)) ≡ suc (m + c) + length (bodies_in ss) = omega arith in
      let i = begin_at ps (suc c + length (bodies_in ss)) (has_back (bodies_of p) (suc c) (bodies_in ss) (bodies_of ps) h.1) t.1 (λ y i. sub y (member_right all i)) in
      let j : FitsAll p (begin ps (suc (m + c) + length (bodies_in ss))) ps (suc c + length (bodies_in ss)) × (fronts_to (begin ps (suc (m + c) + length (bodies_in ss))) p ps ≡ starts ps) = subst (λ z. FitsAll p (begin ps z) ps (suc c + length (bodies_in ss)) × (fronts_to (begin ps z) p ps ≡ starts ps)) n i in
      ((a.fits, j.0), ap (λ l. l ++ fronts_to (begin ps (suc (m + c) + length (bodies_in ss))) p ps) a.front_is ∙ ap (λ l. place_at ss 0 end ∷ l) j.1 ∙ ap (λ z. z ∷ starts ps) (sym (entry_is ss end)))
