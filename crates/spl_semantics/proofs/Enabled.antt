-- Each move that is allowed where control is can be taken by what is left.
use Rattle.std.proofs.Common.{◌≡◌, ℕ, suc, ◌+◌, List, [], ◌∷◌, ◌++◌, map, length, Some, refl, sym, ap, ◌∙◌, subst, arith}
use Rattle.std.specs.Prelude.{slice_get}
use Rattle.st_program.specs.Tree.{Statement, stated, skip, block, select, cooperate, Statements, no_statement, statement, process, Processes, no_process, beside, occurrence, location}
use Rattle.st_program.specs.Member.{Member, here, there}
use Rattle.st_program.specs.Spots.{entry, bodies, bodies_in, bodies_of, Body, Spot, at_spot, spots, spots_along, spots_among, spots_inside, all_spots, body}
use Rattle.st_program.specs.Residuals.{Rest, Done, Run, Then, Again, Inside, Rests, no_rest, rests}
use Rattle.spl_semantics.specs.Stores.{Store}
use Rattle.spl_semantics.specs.Steps.{joined_acts, first_acts, acts_along, acts_among, acts_at, steps, steps_of}
use Rattle.spl_semantics.specs.Going.{Act, around, join, back}
use Rattle.spl_semantics.specs.Control.{children_at, location_at}
use Rattle.spl_semantics.proofs.Members.{member_none, member_left, member_right, member_cases, map_member}
use Rattle.spl_semantics.proofs.Texts.{Has, same_number, near_along, Region, along_region}
use Rattle.basic_laws.proofs.Types.{either}
use Rattle.spl_semantics.proofs.Fits.{location_or, body_place, location_of, front_to, fronts_to, IsGoing, IsActing, firsts, firsts_along, firsts_among, Layout, Fits, FitsAll}
use Rattle.spl_semantics.proofs.Bodies.{HasAt, has_back, own_bodies}

-- the same name, mode and store
pub record SameAct {X Y : Type 0} (a : Act X) (b : Act Y) : Type 0 where
  pub name : a.name ≡ b.name
  pub mode : a.mode ≡ b.mode
  pub store : a.store ≡ b.store

pub same_act : {X : Type 0} (a : Act X) → SameAct a a
same_act a = record { name = refl; mode = refl; store = refl }

-- one of the steps is b
pub record Does {X Y : Type 0} (steps : List (Act X)) (b : Act Y) : Type 0 where
  pub step : Act X
  pub is_in : Member step steps
  pub same : SameAct step b

pub does_around : {X Z Y : Type 0} {b : Act Y} (f : X → Z) (xs : List (Act X)) → Does xs b → Does (map (around f) xs) b
does_around f xs d = record {
  step = around f d.step;
  is_in = map_member (around f) d.is_in;
  same = record { name = d.same.name; mode = d.same.mode; store = d.same.store };
}

pub does_left : {X Y : Type 0} {b : Act Y} (xs ys : List (Act X)) → Does xs b → Does (xs ++ ys) b
does_left xs ys d = record { step = d.step; is_in = member_left ys d.is_in; same = d.same }

pub does_right : {X Y : Type 0} {b : Act Y} (xs ys : List (Act X)) → Does ys b → Does (xs ++ ys) b
does_right xs ys d = record { step = d.step; is_in = member_right xs d.is_in; same = d.same }

-- no statement has an end location
pub record Apart (p : Processes) : Type 0 where
  pub apart : (x : Spot) (b : Body) (c : ℕ) → Member x (all_spots p) → slice_get (bodies_of p) c ≡ Some b → location x.stmt ≡ b.1 → ⊥

module _ (p : Processes) (layout : Layout p) (store : Store) where
  abbrev Acts_of : Spot → List (Act Rest)
  Acts_of x = first_acts x.stmt (length (all_spots p) + x.before) store

  module _ (x : Spot) (x_in : Member x (all_spots p)) (acting : IsActing x.stmt) (b : Act Rest) (b_in : Member b (Acts_of x)) where
    itself : (t : Statement) (e c : ℕ) → Has p t e c → x.stmt ≡ t → Does (first_acts t (length (all_spots p) + c) store) b
    itself t e c h q =
        let same : x ≡ at_spot t e c = same_number p layout.numbered x (at_spot t e c) x_in h (ap occurrence q) in
        subst (λ y. Does (Acts_of y) b) same record { step = b; is_in = b_in; same = same_act b }

    mutual
      first_does : (t : Statement) (e c : ℕ) → ((y : Spot) → Member y (spots t e c) → Member y (all_spots p)) → Member x.stmt (firsts t) → Does (first_acts t (length (all_spots p) + c) store) b
      first_does (stated o l (block ss)) e c sub m = along_does ss o e c (λ y i. sub y (there i)) m
      first_does (stated o l (select ss)) e c sub m = among_does ss e c (λ y i. sub y (there i)) m
      first_does (stated o l skip) e c sub (here q) = itself (stated o l skip) e c (sub _ (here refl)) q
      first_does (stated o l a) e c sub (here q) = itself (stated o l a) e c (sub _ (here refl)) q
      first_does (stated o l a) e c sub (there m) = member_none m

      along_does : (ss : Statements) (o e c : ℕ) → ((y : Spot) → Member y (spots_along ss e c) → Member y (all_spots p)) → Member x.stmt (firsts_along ss) → Does (acts_along ss o (length (all_spots p) + c) store) b
      along_does no_statement o e c sub m = member_none m
      along_does (statement s ss) o e c sub m = does_around (λ r. join (statement s ss) r o 1) _ (first_does s (entry ss e) c (λ y i. sub y (member_left _ i)) m)

      among_does : (ss : Statements) (e c : ℕ) → ((y : Spot) → Member y (spots_among ss e c) → Member y (all_spots p)) → Member x.stmt (firsts_among ss) → Does (acts_among ss (length (all_spots p) + c) store) b
      among_does no_statement e c sub m = member_none m
      among_does (statement s ss) e c sub m =
          let k : length (all_spots p) + (c + length (bodies s)) ≡ length (all_spots p) + c + length (bodies s) = omega arith in
          either (member_cases (firsts s) m)
          (λ m. does_left _ _ (first_does s e c (λ y i. sub y (member_left _ i)) m))
          (λ m. does_right (first_acts s (length (all_spots p) + c) store) _ (subst (λ z. Does (acts_among ss z store) b) k (among_does ss e (c + length (bodies s)) (λ y i. sub y (member_right (spots s e c) i)) m)))

    module _ (apart : Apart p) where
      mutual
        pub does : (r : Rest) (all own : List Spot) (region : Region p all own) (e : ℕ) → Fits p r all own e → Member (location x.stmt) (front_to r p e) → (location x.stmt ≡ e → IsGoing r) → Does (steps r p store) b
        does Done all own region e f (here q) g = absurd (g q)
        does Done all own region e f (there m) g = member_none m
        does (Run n) all own region e f m g =
            let s = f.0 in let c = f.1 in
            let m' : Member (location x.stmt) (location s ∷ []) = subst (λ z. Member (location x.stmt) (location_at z)) f.2 m in
            let q : location x.stmt ≡ location s = only m' in
            let d = first_does s e c (λ y i. region.sub y (region.closed_in (at_spot s e c) y f.3 i)) (f.4 x x_in acting q) in
            subst (λ z. Does (acts_at z (length (all_spots p)) store) b) (sym f.2) d
          where
            only : {l k : ℕ} → Member l (k ∷ []) → l ≡ k
            only (here q) = q
            only (there m) = member_none m
        does (Then r n k) all own region e f m g =
            let s = f.1 in
            let w : body_place (body p n) k ≡ location s = ap (λ z. body_place z k) f.2 ∙ ap (λ z. location_or z e) f.3 in
            subst (λ z. Does (joined_acts z n k (steps r p store)) b) (sym f.2) (does_around (λ z. join f.0 z n k) (steps r p store) (does r all own region (location s) f.5 (subst (λ z. Member (location x.stmt) (front_to r p z)) w m) (λ q. f.4)))
        does (Again r w) all own region e f m g =
            does_around (back w) (steps r p store) (does r all own region f.1 f.9 (subst (λ z. Member (location x.stmt) (front_to r p (location_of z))) f.5 m) (λ q. f.8))
        does (Inside n rs) all own region e f m g =
            let h = at_spot (stated f.0 f.1 (cooperate f.2)) e f.3 in
            does_left _ _ (does_around (Inside n) (steps_of rs p store) (all_do rs f.2 f.3 (λ y i. region.sub y (region.closed_in h y f.5 (there i))) (own_bodies p h (region.sub _ f.5)) f.6 (subst (λ z. Member (location x.stmt) (fronts_to rs p (children_at z))) f.4 m)))

        pub all_do : (rs : Rests) (ps : Processes) (c : ℕ) → ((y : Spot) → Member y (spots_inside ps c) → Member y (all_spots p)) → HasAt (bodies_of p) c (bodies_of ps) → FitsAll p rs ps c → Member (location x.stmt) (fronts_to rs p ps) → Does (steps_of rs p store) b
        all_do no_rest ps c sub at f m = member_none m
        all_do (rests r rs) no_process c sub at f m = absurd f
        all_do (rests r rs) (beside (process ss end) ps) c sub at f m =
            either (member_cases (front_to r p end) m)
            (λ m. does_left _ _ (does_around (λ z. rests z rs) (steps r p store) (does r (spots_along ss end (suc c)) (near_along ss end (suc c)) (along_region p ss end (suc c) (λ y i. sub y (member_left _ i))) end f.0 m (λ q. absurd (apart.apart x (ss, end) c x_in at.0 q)))))
            (λ m. does_right (map (around (λ z. rests z rs)) (steps r p store)) _ (does_around (λ z. rests r z) (steps_of rs p store) (all_do rs ps (suc c + length (bodies_in ss)) (λ y i. sub y (member_right (spots_along ss end (suc c)) i)) (has_back (bodies_of p) (suc c) (bodies_in ss) (bodies_of ps) at.1) f.1 m)))
