-- What is left at a place of a program, and where control is then: the invariant of runs.
--
-- `Fits` says, by recursion on what is left, that it is left of something that stands in a part of the text, and which
-- location control reaches behind it. With that location, joining what is left with what follows moves no control.
use Rattle.std.proofs.Common.{◌≡◌, ℕ, suc, ◌+◌, List, [], ◌∷◌, ◌++◌, length, Option, Some, None, refl, ap, ◌∙◌}
use Rattle.st_form.specs.Formula.{Formula}
use Rattle.st_program.specs.Tree.{Statement, stated, skip, if_then, if_else, while_do, block, select, cooperate, Statements, no_statement, statement, process, Processes, no_process, beside, occurrence, location, nth}
use Rattle.st_program.specs.Member.{Member}
use Rattle.st_program.specs.Spots.{bodies_in, Body, Spot, at_spot, spots_along, all_spots, spot, IsNumbered, body}
use Rattle.st_program.specs.Residuals.{Rest, Done, Run, Then, Again, Inside, Rests, no_rest, rests}
use Rattle.spl_semantics.specs.Going.{behind, go_on, join, back}
use Rattle.spl_semantics.specs.Control.{children_at, location_at}
use Rattle.spl_semantics.proofs.Texts.{near_along, Has, Region, found}

-- the location of a statement, or the one behind the list
abbrev pub location_or : Option Statement → ℕ → ℕ
location_or None e = e
location_or (Some s) e = location s

abbrev pub place_at : Statements → ℕ → ℕ → ℕ
place_at ss k e = location_or (nth ss k) e

abbrev pub body_place : Option Body → ℕ → ℕ
body_place None k = 0
body_place (Some x) k = place_at x.0 k x.1

abbrev pub location_of : Option Spot → ℕ
location_of None = 0
location_of (Some x) = location x.stmt

-- where control is, where e is the location behind what is left
abbrev mutual
  pub front_to : Rest → Processes → ℕ → List ℕ
  front_to Done p e = e ∷ []
  front_to (Run n) p e = location_at (spot p n)
  front_to (Then r b k) p e = front_to r p (body_place (body p b) k)
  front_to (Again r w) p e = front_to r p (location_of (spot p w))
  front_to (Inside c rs) p e = fronts_to rs p (children_at (spot p c))

  pub fronts_to : Rests → Processes → Processes → List ℕ
  fronts_to no_rest p ps = []
  fronts_to (rests r rs) p no_process = front_to r p 0 ++ fronts_to rs p no_process
  fronts_to (rests r rs) p (beside (process ss end) ps) = front_to r p end ++ fronts_to rs p ps

abbrev pub IsGoing : Rest → Type 0
IsGoing Done = ⊥
IsGoing (Run n) = Unit {0}
IsGoing (Then r b k) = Unit {0}
IsGoing (Again r w) = Unit {0}
IsGoing (Inside c rs) = Unit {0}

-- the statements with transitions of their own that a statement can begin with
abbrev mutual
  pub firsts : Statement → List Statement
  firsts (stated o l (block ss)) = firsts_along ss
  firsts (stated o l (select ss)) = firsts_among ss
  firsts (stated o l skip) = stated o l skip ∷ []
  firsts (stated o l a) = stated o l a ∷ []

  pub firsts_along : Statements → List Statement
  firsts_along no_statement = []
  firsts_along (statement s ss) = firsts s

  pub firsts_among : Statements → List Statement
  firsts_among no_statement = []
  firsts_among (statement s ss) = firsts s ++ firsts_among ss

-- a statement with a transition of its own
abbrev pub IsActing : Statement → Type 0
IsActing (stated o l (block ss)) = ⊥
IsActing (stated o l (select ss)) = ⊥
IsActing (stated o l skip) = Unit {0}
IsActing (stated o l _) = Unit {0}

-- every statement that acts at its location is one that it can begin with
abbrev pub Top : Processes → Statement → Type 0
Top p s = (x : Spot) → Member x (all_spots p) → IsActing x.stmt → location x.stmt ≡ location s → Member x.stmt (firsts s)

abbrev pub AllTop : Processes → Statements → Type 0
AllTop p ss = (k : ℕ) (s : Statement) → nth ss k ≡ Some s → Top p s

abbrev pub ProcessTops : Processes → Processes → Type 0
ProcessTops p no_process = Unit {0}
ProcessTops p (beside (process ss end) ps) = AllTop p ss × ProcessTops p ps

abbrev pub TopOk : Processes → Statement → Type 0
TopOk p (stated o l (if_then t s)) = Top p s
TopOk p (stated o l (if_else t s r)) = Top p s × Top p r
TopOk p (stated o l (while_do t s)) = Top p (stated o l (while_do t s)) × Top p s
TopOk p (stated o l (block ss)) = (k : ℕ) (s : Statement) → nth ss (suc k) ≡ Some s → Top p s
TopOk p (stated o l (cooperate ps)) = ProcessTops p ps
TopOk p (stated o l skip) = Unit {0}
TopOk p (stated o l _) = Unit {0}

-- the first statement of each block has the block's location, and each branch the selection's
abbrev pub SameLocs : Statements → ℕ → Type 0
SameLocs no_statement l = Unit {0}
SameLocs (statement s ss) l = (location s ≡ l) × SameLocs ss l

abbrev pub HeadOk : Statement → Type 0
HeadOk (stated o l (block no_statement)) = ⊥
HeadOk (stated o l (block (statement s ss))) = location s ≡ l
HeadOk (stated o l (select ss)) = SameLocs ss l
HeadOk (stated o l skip) = Unit {0}
HeadOk (stated o l _) = Unit {0}

-- what is used of a well-formed program's numbers
pub record Layout (p : Processes) : Type 0 where
  pub numbered : IsNumbered p
  pub heads : (s : Statement) (n c : ℕ) → Has p s n c → HeadOk s
  pub tops : (s : Statement) (n c : ℕ) → Has p s n c → TopOk p s
  pub process_tops : ProcessTops p p

-- the items of a body stand in a part of the text, and each but the first, and where the body is a
-- component's the first too, is the whole of its location
pub record Body_in (p : Processes) (all own : List Spot) (ss : Statements) (e : ℕ) : Type 0 where
  pub item : (k : ℕ) (s : Statement) → nth ss k ≡ Some s → (c : ℕ) × Member (at_spot s (place_at ss (suc k) e) c) all × Member (at_spot s (place_at ss (suc k) e) c) own
  pub top : (k : ℕ) (s : Statement) → nth ss (suc k) ≡ Some s → Top p s

-- the rest of a run of what stands in a part of p, where e is the location behind it
module _ (p : Processes) where
  abbrev mutual
    pub Fits : Rest → List Spot → List Spot → ℕ → Type 0
    Fits Done all own e = Unit {0}
    Fits (Run n) all own e = (s : Statement) × (c : ℕ) × (spot p n ≡ Some (at_spot s e c)) × Member (at_spot s e c) all × Top p s × Member (at_spot s e c) own
    Fits (Then r b k) all own e =
        (ss : Statements) × (s : Statement) × (body p b ≡ Some (ss, e)) × (nth ss k ≡ Some s) × IsGoing r × Fits r all own (location s) × Body_in p all own ss e × Top p s
    Fits (Again r w) all own e =
        (o : ℕ) × (l : ℕ) × (t : Formula) × (s : Statement) × (c : ℕ) × (spot p w ≡ Some (at_spot (stated o l (while_do t s)) e c)) × Member (at_spot (stated o l (while_do t s)) e c) all × Top p (stated o l (while_do t s)) × IsGoing r × Fits r all own l × Member (at_spot (stated o l (while_do t s)) e c) own
    Fits (Inside n rs) all own e =
        (o : ℕ) × (l : ℕ) × (ps : Processes) × (c : ℕ) × (spot p n ≡ Some (at_spot (stated o l (cooperate ps)) e c)) × Member (at_spot (stated o l (cooperate ps)) e c) all × FitsAll rs ps c × Member (at_spot (stated o l (cooperate ps)) e c) own

    pub FitsAll : Rests → Processes → ℕ → Type 0
    FitsAll no_rest no_process c = Unit {0}
    FitsAll no_rest (beside (process ss end) ps) c = ⊥
    FitsAll (rests r rs) no_process c = ⊥
    FitsAll (rests r rs) (beside (process ss end) ps) c = Fits r (spots_along ss end (suc c)) (near_along ss end (suc c)) end × FitsAll rs ps (suc c + length (bodies_in ss))

-- a place of what goes on, and where control is
pub record At (p : Processes) (all own : List Spot) (r : Rest) (e : ℕ) (front : List ℕ) : Type 0 where
  pub fits : Fits p r all own e
  pub front_is : front_to r p e ≡ front

module _ (p : Processes) (layout : Layout p) (all own : List Spot) (region : Region p all own) where
  pub run_at : (s : Statement) (e c : ℕ) → Member (at_spot s e c) all → Member (at_spot s e c) own → Top p s → At p all own (Run (occurrence s)) e (location s ∷ [])
  run_at s e c h h' t =
      let f = found p layout.numbered (at_spot s e c) (region.sub _ h) in
      record { fits = (s, c, f, h, t, h'); front_is = ap location_at f }

  module _ (ss : Statements) (e b : ℕ) (named : body p b ≡ Some (ss, e)) (items : Body_in p all own ss e) where
    behind_at : (k : ℕ) (r : Rest) → IsGoing r → (o : Option Statement) → nth ss k ≡ o → ((s : Statement) → o ≡ Some s → Top p s) → Fits p r all own (location_or o e) → At p all own (behind o r b k) e (front_to r p (location_or o e))
    behind_at k r g None q t f = record { fits = f; front_is = refl }
    behind_at k r g (Some s) q t f = record {
      fits = (ss, s, named, q, g, f, items, t s refl);
      front_is = ap (λ z. front_to r p (body_place z k)) named ∙ ap (λ z. front_to r p (location_or z e)) q;
    }

    go_on_at : (k : ℕ) (o : Option Statement) → nth ss k ≡ o → ((s : Statement) → o ≡ Some s → Top p s) → At p all own (go_on o (nth ss (suc k)) b k) e (location_or o e ∷ [])
    go_on_at k None q t = record { fits = tt; front_is = refl }
    go_on_at k (Some s) q t =
        let i = items.item k s q in
        let y = run_at s (place_at ss (suc k) e) i.0 i.1 i.2 (t s refl) in
        let a = behind_at (suc k) (Run (occurrence s)) tt (nth ss (suc k)) refl (items.top k) y.fits in
        record { fits = a.fits; front_is = a.front_is ∙ y.front_is }

    pub join_at : (k : ℕ) → ((s : Statement) → nth ss k ≡ Some s → Top p s) → (r : Rest) → Fits p r all own (place_at ss k e) → At p all own (join ss r b k) e (front_to r p (place_at ss k e))
    join_at k t Done f = go_on_at k (nth ss k) refl t
    join_at k t (Run n) f = behind_at k (Run n) tt (nth ss k) refl t f
    join_at k t (Then r c j) f = behind_at k (Then r c j) tt (nth ss k) refl t f
    join_at k t (Again r w) f = behind_at k (Again r w) tt (nth ss k) refl t f
    join_at k t (Inside c rs) f = behind_at k (Inside c rs) tt (nth ss k) refl t f

  module _ (o l w : ℕ) (t : Formula) (s : Statement) (e c : ℕ) (at : spot p w ≡ Some (at_spot (stated o l (while_do t s)) e c)) (m : Member (at_spot (stated o l (while_do t s)) e c) all) (m' : Member (at_spot (stated o l (while_do t s)) e c) own) (top : Top p (stated o l (while_do t s))) where
    again_at : (r : Rest) → IsGoing r → Fits p r all own l → At p all own (Again r w) e (front_to r p l)
    again_at r g f = record { fits = (o, l, t, s, c, at, m, top, g, f, m'); front_is = ap (λ z. front_to r p (location_of z)) at }

    pub back_at : (r : Rest) → Fits p r all own l → At p all own (back w r) e (front_to r p l)
    back_at Done f = record { fits = (stated o l (while_do t s), c, at, m, top, m'); front_is = ap location_at at }
    back_at (Run n) f = again_at (Run n) tt f
    back_at (Then r b k) f = again_at (Then r b k) tt f
    back_at (Again r v) f = again_at (Again r v) tt f
    back_at (Inside d rs) f = again_at (Inside d rs) tt f
