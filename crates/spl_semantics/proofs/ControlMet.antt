-- Every state of every run meets the control facts.
--
-- The table of a state gives each active component one alternative of its own, and no other component one. It is read
-- along what is left, with the places of components and locations in their lists carried along.
use Rattle.std.proofs.Common.{◌≡◌, ℕ, zero, suc, ◌+◌, ◌<◌, Bool, true, false, List, [], ◌∷◌, ◌++◌, length, Option, Some, None, refl, sym, ap, ◌∙◌, subst, ◌⊎◌, inl, inr, arith}
use Rattle.std.specs.Prelude.{slice_get, IsTrue, ◌||◌, ◌==◌, if◌then◌else◌}
use Rattle.std.proofs.lemmas.Bool.Decides.{nat_tests}
use Rattle.st_form.specs.Formula.{Formula}
use Rattle.st_form.specs.Exchange.{is_listed}
use Rattle.st_program.specs.Tree.{Statement, stated, skip, if_then, if_else, while_do, block, select, cooperate, Statements, no_statement, statement, process, Processes, no_process, beside, occurrence, location, action}
use Rattle.st_program.specs.Member.{Member, here, there}
use Rattle.st_program.specs.Spots.{entry, bodies, bodies_in, Spot, at_spot, spots, spots_along, spots_among, spots_inside, all_spots, spot}
use Rattle.st_program.specs.Locations.{along_end, AlongPlaced, InsidePlaced}
use Rattle.st_program.specs.Programs.{WellFormed}
use Rattle.st_program.specs.Residuals.{Rest, Done, Run, Then, Again, Inside, Rests, no_rest, rests}
use Rattle.control_states.specs.declared.alternative.Alternative.{Alternative}
use Rattle.control_states.specs.declared.alternative.Alternative.TheVariants.{Location, Inside as Held}
use Rattle.control_states.specs.Control.{ComponentFacts, component_at, Active, process as outer, child as inner, IsOneOf, InControl}
use Rattle.control_facts.specs.Alternatives.{alternatives_of, strands, strands_among, strands_inside, owners_along, owners_inside, control_of}
use Rattle.spl_semantics.specs.Control.{children_of, children_at}
use Rattle.spl_semantics.specs.Runs.{State, Reached, control, image}
use Rattle.spl_semantics.specs.Facts.{MeetsControl}
use Rattle.spl_semantics.proofs.Members.{member_none, member_left, member_right, member_cases}
use Rattle.spl_semantics.proofs.Texts.{near_along, found, along_region}
use Rattle.basic_laws.proofs.Types.{either}
use Rattle.spl_semantics.proofs.Fits.{location_of, Layout, Fits, FitsAll}
use Rattle.spl_semantics.proofs.Bodies.{HasAt, has_front, has_back, has_all}
use Rattle.spl_semantics.proofs.Layouts.{layout_of, ends_of, apart_of}
use Rattle.spl_semantics.proofs.ControlMoves.{reached_good}
use Rattle.spl_semantics.proofs.Tables.{numbers, Table, Given, NotTwice, before_at, table, tables, all_once, given_numbers, all_inner, all_at, all_from}
use Rattle.control_facts.proofs.Owners.{owned_along}
use Rattle.spl_semantics.proofs.Strands.{near_own_along, one_of, at_end, at_statement, at_inside, count, count_among, near_strands_along, near_owned_along}

-- components with their numbers
abbrev numbered : List ComponentFacts → ℕ → List (ℕ × ComponentFacts)
numbered [] n = []
numbered (x ∷ xs) n = (n, x) ∷ numbered xs (suc n)

numbered-append : (xs ys : List ComponentFacts) (n m : ℕ) → n + length xs ≡ m → numbered (xs ++ ys) n ≡ numbered xs n ++ numbered ys m
numbered-append [] ys n m e = ap (numbered ys) (let f : n ≡ m = omega arith in f)
numbered-append (x ∷ xs) ys n m e = ap (λ z. (n, x) ∷ z) (numbered-append xs ys (suc n) m (omega arith))

in_numbered : (xs : List ComponentFacts) (n k : ℕ) (x : ComponentFacts) → slice_get xs k ≡ Some x → Member (n + k, x) (numbered xs n)
in_numbered [] n k x q = cc
in_numbered (y ∷ xs) n zero x q =
    let same : y ≡ x = cc in
    let e : n + 0 ≡ n = omega arith in
    here (ap (λ z. (z, x)) e ∙ ap (λ z. (n, z)) (sym same))
in_numbered (y ∷ xs) n (suc k) x q =
    let e : suc n + k ≡ n + suc k = omega arith in
    there (subst (λ z. Member (z, x) (numbered xs (suc n))) e (in_numbered xs (suc n) k x q))

-- what is around a component in a part of the text: a cooperation of that part, whose child it is
pub record ChildIn (all : List Spot) (k : ℕ) (x : ComponentFacts) : Type 0 where
  pub outer_number : ℕ
  pub at : Spot
  pub is_in : Member at all
  pub around_is : x.around ≡ Some (outer_number, occurrence at.stmt)
  pub is_child : Member k (numbers (children_of (action at.stmt)) at.before)

wider_child : (k : ℕ) (x : ComponentFacts) (all more : List Spot) → ((y : Spot) → Member y all → Member y more) → ChildIn all k x → ChildIn more k x
wider_child k x all more f c = record { outer_number = c.outer_number; at = c.at; is_in = f c.at c.is_in; around_is = c.around_is; is_child = c.is_child }

module _ (k : ℕ) (x : ComponentFacts) where
  mutual
    child_in : (s : Statement) (e c n : ℕ) → Member (k, x) (numbered (strands s c n) n) → ChildIn (spots s e n) k x
    child_in (stated o l (cooperate ps)) e c n m =
        either (child_inside ps (Some (c, o)) n m)
        (λ r. record { outer_number = c; at = at_spot (stated o l (cooperate ps)) e n; is_in = here refl; around_is = r.0; is_child = r.1 })
        (λ r. wider_child k x _ _ (λ y i. there i) r)
    child_in (stated o l (if_then t s)) e c n m = wider_child k x _ _ (λ y i. there i) (child_in s e c n m)
    child_in (stated o l (if_else t s r)) e c n m =
        let cut = numbered-append (strands s c n) (strands r c (n + length (bodies s))) n (n + length (bodies s)) (ap (λ z. n + z) (count s c n)) in
        either (member_cases (numbered (strands s c n) n) (subst (Member (k, x)) cut m))
        (λ m. wider_child k x _ _ (λ y i. there (member_left _ i)) (child_in s e c n m))
        (λ m. wider_child k x _ _ (λ y i. there (member_right (spots s e n) i)) (child_in r e c (n + length (bodies s)) m))
    child_in (stated o l (while_do t s)) e c n m = wider_child k x _ _ (λ y i. there i) (child_in s l c n m)
    child_in (stated o l (block ss)) e c n m = wider_child k x _ _ (λ y i. there i) (child_along ss e c n m)
    child_in (stated o l (select ss)) e c n m = wider_child k x _ _ (λ y i. there i) (child_among ss e c n m)
    child_in (stated o l skip) e c n m = member_none m
    child_in (stated o l _) e c n m = member_none m

    child_along : (ss : Statements) (e c n : ℕ) → Member (k, x) (numbered (strands_among ss c n) n) → ChildIn (spots_along ss e n) k x
    child_along no_statement e c n m = member_none m
    child_along (statement s ss) e c n m =
        let cut = numbered-append (strands s c n) (strands_among ss c (n + length (bodies s))) n (n + length (bodies s)) (ap (λ z. n + z) (count s c n)) in
        either (member_cases (numbered (strands s c n) n) (subst (Member (k, x)) cut m))
        (λ m. wider_child k x _ _ (λ y i. member_left _ i) (child_in s (entry ss e) c n m))
        (λ m. wider_child k x _ _ (λ y i. member_right (spots s (entry ss e) n) i) (child_along ss e c (n + length (bodies s)) m))

    child_among : (ss : Statements) (e c n : ℕ) → Member (k, x) (numbered (strands_among ss c n) n) → ChildIn (spots_among ss e n) k x
    child_among no_statement e c n m = member_none m
    child_among (statement s ss) e c n m =
        let cut = numbered-append (strands s c n) (strands_among ss c (n + length (bodies s))) n (n + length (bodies s)) (ap (λ z. n + z) (count s c n)) in
        either (member_cases (numbered (strands s c n) n) (subst (Member (k, x)) cut m))
        (λ m. wider_child k x _ _ (λ y i. member_left _ i) (child_in s e c n m))
        (λ m. wider_child k x _ _ (λ y i. member_right (spots s e n) i) (child_among ss e c (n + length (bodies s)) m))

    -- one of these, or in one of them
    child_inside : (ps : Processes) (around : Option (ℕ × ℕ)) (n : ℕ) → Member (k, x) (numbered (strands_inside ps around n) n) → ((x.around ≡ around) × Member k (numbers ps n)) ⊎ ChildIn (spots_inside ps n) k x
    child_inside no_process around n m = member_none m
    child_inside (beside (process ss end) ps) around n (here q) = inl (ap (λ z. z.1.around) q, here (ap (λ z. z.0) q))
    child_inside (beside (process ss end) ps) around n (there m) =
        let cut = numbered-append (strands_among ss n (suc n)) (strands_inside ps around (suc n + length (bodies_in ss))) (suc n) (suc n + length (bodies_in ss)) (ap (λ z. suc n + z) (count_among ss n (suc n))) in
        either (member_cases (numbered (strands_among ss n (suc n)) (suc n)) (subst (Member (k, x)) cut m))
        (λ m. inr (wider_child k x _ _ (λ y i. member_left _ i) (child_along ss end n (suc n) m)))
        (λ m. either (child_inside ps around (suc n + length (bodies_in ss)) m)
        (λ r. inl (r.0, there r.1))
        (λ r. inr (wider_child k x _ _ (λ y i. member_right (spots_along ss end (suc n)) i) r)))

found_at : (xs : List ComponentFacts) (k : ℕ) (x : ComponentFacts) → slice_get xs k ≡ Some x → (component_at xs k ≡ x) × (k < length xs)
found_at [] k x q = cc
found_at (y ∷ xs) zero x q = (cc, omega arith)
found_at (y ∷ xs) (suc k) x q = let r = found_at xs k x q in (r.0, let lt = r.1 in omega arith)

at_found : (xs : List ComponentFacts) (k : ℕ) → k < length xs → slice_get xs k ≡ Some (component_at xs k)
at_found [] k h = absurd (omega arith)
at_found (y ∷ xs) zero h = refl
at_found (y ∷ xs) (suc k) h = at_found xs k (omega arith)

-- what the table says of a component
abbrev looked_up : Table → ℕ → Alternative
looked_up [] c = Location 0
looked_up (x ∷ t) c = if x.0 == c then x.1 else looked_up t c

looked_up_is : (t : Table) (c : ℕ) (a : Alternative) → NotTwice t → Member (c, a) t → looked_up t c ≡ a
looked_up_is [] c a d m = member_none m
looked_up_is (x ∷ t) c a d (here q) =
    let e : (x.0 == c) ≡ true = let f : x.0 ≡ c = sym (ap (λ z. z.0) q) in grind (arith, nat_tests) in
    ap (λ b. if b then x.1 else looked_up t c) e ∙ sym (ap (λ z. z.1) q)
looked_up_is (x ∷ t) c a d (there m) = at_test (x.0 == c) refl (looked_up_is t c a d.1 m)
  where
    at_test : (b : Bool) → (x.0 == c) ≡ b → looked_up t c ≡ a → (if b then x.1 else looked_up t c) ≡ a
    at_test true e i = let f : c ≡ x.0 = grind (arith, nat_tests) in absurd (d.0 (subst (Given t) f (a, m)))
    at_test false e i = i

pub listed : (l : ℕ) (ls : List ℕ) → Member l ls → IsTrue (is_listed l ls)
listed l [] m = member_none m
listed l (k ∷ ls) (here q) = let e : (k == l) ≡ true = grind (arith, nat_tests) in rw e refl
listed l (k ∷ ls) (there m) = at_test (k == l) (listed l ls m)
  where
    at_test : (b : Bool) → IsTrue (is_listed l ls) → IsTrue (b || is_listed l ls)
    at_test true h = refl
    at_test false h = h

pub is_member : (l : ℕ) (ls : List ℕ) → IsTrue (is_listed l ls) → Member l ls
is_member l [] h = cc
is_member l (k ∷ ls) h = at_test (k == l) refl h (λ i. is_member l ls i)
  where
    at_test : (b : Bool) → (k == l) ≡ b → IsTrue (b || is_listed l ls) → (IsTrue (is_listed l ls) → Member l ls) → Member l (k ∷ ls)
    at_test true e h further = here (grind (arith, nat_tests))
    at_test false e h further = there (further h)

-- what stands in the children of a statement stands in it
inside_own : (y z : Spot) → Member z (spots_inside (children_of (action y.stmt)) y.before) → Member z (spots y.stmt y.next y.before)
inside_own y z i = go y.stmt y.next y.before i
  where
    go : (s : Statement) (n c : ℕ) → Member z (spots_inside (children_of (action s)) c) → Member z (spots s n c)
    go (stated o l (cooperate ps)) n c i = there i
    go (stated o l skip) n c i = member_none i
    go (stated o l _) n c i = member_none i

module _ (p : Processes) (layout : Layout p) (in_text : InsidePlaced p 0) where
  abbrev parts : List ComponentFacts
  parts = (control_of p).components

  abbrev whose : List ℕ
  whose = (control_of p).owners

  -- what holds of a component and its alternative in the table
  module _ (m : ℕ → Alternative) where
    pub record Right (k : ℕ) (a : Alternative) : Type 0 where
      pub active : Active parts m k
      pub among : IsOneOf a (component_at parts k).alternatives
      pub owner : (l : ℕ) → a ≡ Location l → slice_get whose l ≡ Some k

    abbrev AllRight : Table → Type 0
    AllRight t = (k : ℕ) (a : Alternative) → Member (k, a) t → Right k a

    abbrev Agrees : Table → Type 0
    Agrees t = (k : ℕ) (a : Alternative) → Member (k, a) t → m k ≡ a

    -- component c has these statements and this end, and its places in the lists are these
    pub record Stands (ss : Statements) (c end f : ℕ) : Type 0 where
      pub active : Active parts m c
      pub alternatives : (component_at parts c).alternatives ≡ alternatives_of ss end
      pub inner : HasAt parts (suc c) (strands_among ss c (suc c))
      pub placed : AlongPlaced ss f
      pub owners : HasAt whose f (owners_along ss c (suc c))
      pub end_owner : slice_get whose end ≡ Some c

    only_location : (l k : ℕ) → Location k ≡ Location l → k ≡ l
    only_location l k e = cc

    no_location : (l o : ℕ) → Held o ≡ Location l → ⊥
    no_location l o e = cc

    one : (c k : ℕ) (a b : Alternative) → Member {A = ℕ × Alternative} (k, a) ((c, b) ∷ []) → Right c b → Right k a
    one c k a b (here q) r = subst (λ z. Right z.0 z.1) (sym q) r
    one c k a b (there i) r = member_none i

    mutual
      right_in : (r : Rest) (ss : Statements) (e c end f : ℕ) → Fits p r (spots_along ss end (suc c)) (near_along ss end (suc c)) e → Stands ss c end f → Agrees (table r p c end) → ((y : Spot) → Member y (spots_along ss end (suc c)) → Member y (all_spots p)) → AllRight (table r p c end)
      right_in Done ss e c end f fits st agrees sub k a i =
          one c k a (Location end) i record {
            active = st.active;
            among = subst (IsOneOf (Location end)) (sym st.alternatives) (one_of _ _ (at_end ss end));
            owner = λ l q. subst (λ z. slice_get whose z ≡ Some c) (only_location l end q) st.end_owner;
          }
      right_in (Run n) ss e c end f fits st agrees sub k a i =
          let y = at_spot fits.0 e fits.1 in
          let is : location_of (spot p n) ≡ location fits.0 = ap location_of fits.2 in
          let o = near_owned_along whose c y ss f end (suc c) st.placed st.owners fits.5 in
          one c k a (Location (location fits.0)) (subst (λ z. Member {A = ℕ × Alternative} (k, a) ((c, Location z) ∷ [])) is i) record {
            active = st.active;
            among = subst (IsOneOf (Location (location fits.0))) (sym st.alternatives) (one_of _ _ (at_statement ss end fits.0 (near_own_along y ss end (suc c) fits.5)));
            owner = λ l q. subst (λ z. slice_get whose z ≡ Some c) (only_location l (location fits.0) q) o.own;
          }
      right_in (Then r b j) ss e c end f fits st agrees sub k a i = right_in r ss (location fits.1) c end f fits.5 st agrees sub k a i
      right_in (Again r w) ss e c end f fits st agrees sub k a i = right_in r ss fits.1 c end f fits.9 st agrees sub k a i
      right_in (Inside n rs) ss e c end f fits st agrees sub k a (here q) =
          let y = at_spot (stated fits.0 fits.1 (cooperate fits.2)) e fits.3 in
          let named : n ≡ fits.0 = sym (layout.numbered n y fits.4) in
          subst (λ z. Right z.0 z.1) (sym q) record {
            active = st.active;
            among = subst (λ z. IsOneOf (Held z) (component_at parts c).alternatives) (sym named)
                (subst (IsOneOf (Held fits.0)) (sym st.alternatives) (one_of _ _ (at_inside ss end fits.0 fits.1 fits.2 (near_own_along y ss end (suc c) fits.7))));
            owner = λ l q. absurd (no_location l n q);
          }
      right_in (Inside n rs) ss e c end f fits st agrees sub k a (there i) =
          let y = at_spot (stated fits.0 fits.1 (cooperate fits.2)) e fits.3 in
          let named : n ≡ fits.0 = sym (layout.numbered n y fits.4) in
          let same = λ (s : Option Spot). tables rs p (children_at s) (before_at s) in
          let o = near_owned_along whose c y ss f end (suc c) st.placed st.owners fits.7 in
          let in_list = o.inner fits.2 refl in
          let held : m c ≡ Held fits.0 = agrees c (Held n) (here refl) ∙ ap Held named in
          all_right rs fits.2 (Some (c, fits.0)) fits.3 in_list.0 fits.6
          (near_strands_along parts c y ss end (suc c) st.inner fits.7)
          (λ k lt around. inner k c fits.0 lt around st.active held)
          in_list.1 in_list.2
          (λ k a i. agrees k a (there (subst (λ s. Member (k, a) (same s)) (sym fits.4) i)))
          (λ z i. sub z (along_closed y z fits.5 i))
          k a (subst (λ s. Member (k, a) (same s)) fits.4 i)
        where
          along_closed : (y z : Spot) → Member y (spots_along ss end (suc c)) → Member z (spots_inside (children_of (action y.stmt)) y.before) → Member z (spots_along ss end (suc c))
          along_closed y z h i = (along_region p ss end (suc c) sub).closed_in y z h (inside_own y z i)

      all_right : (rs : Rests) (ps : Processes) (around : Option (ℕ × ℕ)) (c f : ℕ) → FitsAll p rs ps c → HasAt parts c (strands_inside ps around c) → ((k : ℕ) → k < length parts → (component_at parts k).around ≡ around → Active parts m k) → InsidePlaced ps f → HasAt whose f (owners_inside ps c) → Agrees (tables rs p ps c) → ((y : Spot) → Member y (spots_inside ps c) → Member y (all_spots p)) → AllRight (tables rs p ps c)
      all_right no_rest ps around c f fits places active pl own agrees sub k a i = member_none i
      all_right (rests r rs) no_process around c f fits places active pl own agrees sub k a i = member_none i
      all_right (rests r rs) (beside (process ss end) ps) around c f fits places active pl own agrees sub k a i =
          let at = found_at parts c _ places.0 in
          let further : HasAt whose (along_end ss f) (c ∷ owners_inside ps (suc c + length (bodies_in ss))) =
          subst (λ z. HasAt whose z (c ∷ owners_inside ps (suc c + length (bodies_in ss)))) (owned_along ss c (suc c) f) (has_back whose f (owners_along ss c (suc c)) _ own) in
          let st : Stands ss c end f = record {
            active = active c at.1 (ap (λ z. z.around) at.0);
            alternatives = ap (λ z. z.alternatives) at.0;
            inner = has_front parts (suc c) (strands_among ss c (suc c)) _ places.1;
            placed = pl.0;
            owners = has_front whose f (owners_along ss c (suc c)) _ own;
            end_owner = subst (λ z. slice_get whose z ≡ Some c) (sym pl.1) further.0;
          } in
          either (member_cases (table r p c end) i)
          (λ i. right_in r ss end c end f fits.0 st (λ k a i. agrees k a (member_left _ i)) (λ y i. sub y (member_left _ i)) k a i)
          (λ i. all_right rs ps around (suc c + length (bodies_in ss)) (suc end) fits.1
          (subst (λ z. HasAt parts (suc c + z) (strands_inside ps around (suc c + length (bodies_in ss)))) (count_among ss c (suc c)) (has_back parts (suc c) (strands_among ss c (suc c)) _ places.1))
          active pl.2
          (subst (λ z. HasAt whose (suc z) (owners_inside ps (suc c + length (bodies_in ss)))) (sym pl.1) further.1)
          (λ k a i. agrees k a (member_right (table r p c end) i)) (λ y i. sub y (member_right (spots_along ss end (suc c)) i)) k a i)

  module _ (s : State) (fits : FitsAll p s.left p 0) where
    abbrev at_all : Table
    at_all = tables s.left p p 0

    abbrev place_of : ℕ → Alternative
    place_of = looked_up at_all

    agreed : (k : ℕ) (a : Alternative) → Member (k, a) at_all → place_of k ≡ a
    agreed k a i = looked_up_is at_all k a (all_once p layout s.left p 0 fits) i

    right : (k : ℕ) (a : Alternative) → Member (k, a) at_all → Right place_of k a
    right k a i =
        all_right place_of s.left p None 0 0 fits (has_all [] parts) (λ k lt around. outer k lt around) in_text (has_all [] whose) agreed (λ y i. i) k a i

    -- a component of the list is a process, or a child of a cooperation
    origin_of : (c : ℕ) → c < length parts → (((component_at parts c).around ≡ None) × Member c (numbers p 0)) ⊎ ChildIn (all_spots p) c (component_at parts c)
    origin_of c lt =
        let e : 0 + c ≡ c = omega arith in
        child_inside c (component_at parts c) p None 0 (subst (λ z. Member (z, component_at parts c) (numbered parts 0)) e (in_numbered parts 0 c (component_at parts c) (at_found parts c lt)))

    is_given : (c : ℕ) → Active parts place_of c → Given at_all c
    is_given c (outer _ lt none) =
        either (origin_of c lt) (λ r. given_numbers p layout s.left p 0 c fits r.1) (λ r. absurd (not_both _ _ none r.around_is))
      where
        not_both : (o : Option (ℕ × ℕ)) (x : ℕ × ℕ) → o ≡ None → o ≡ Some x → ⊥
        not_both o x e f = cc
    is_given c (inner _ a o lt way act is) =
        inner_given (is_given a act) (origin_of c lt)
      where
        inner_given : Given at_all a → (((component_at parts c).around ≡ None) × Member c (numbers p 0)) ⊎ ChildIn (all_spots p) c (component_at parts c) → Given at_all c
        inner_given g (inl r) = given_numbers p layout s.left p 0 c fits r.1
        inner_given g (inr r) =
            let pair : Some (r.outer_number, occurrence r.at.stmt) ≡ Some (a, o) = sym r.around_is ∙ way in
            let same : occurrence r.at.stmt ≡ o = of_pair (r.outer_number, occurrence r.at.stmt) (a, o) pair in
            let held : g.0 ≡ Held o = sym (agreed a g.0 g.1) ∙ is in
            all_inner p layout s.left p 0 fits a o c (subst (λ z. Member (a, z) at_all) held g.1)
            (record { at = r.at; at_is = subst (λ z. spot p z ≡ Some r.at) same (found p layout.numbered r.at r.is_in); is_child = r.is_child })
          where
            of_pair : (x y : ℕ × ℕ) → Some x ≡ Some y → x.1 ≡ y.1
            of_pair x y e = let f : x ≡ y = cc in ap (λ z. z.1) f

    pub meets : InControl (control_of p) place_of (image p s).located
    meets = record {
      state = λ c act.
          let g = is_given c act in
          subst (λ z. IsOneOf z (component_at parts c).alternatives) (sym (agreed c g.0 g.1)) (right c g.0 g.1).among;
      located = λ l. (
        λ h. let g = all_from p layout s.left p 0 fits l (is_member l (control p s) h) in
            let r = right g.0 (Location l) g.1 in
            (g.0, r.owner l refl, r.active, agreed g.0 (Location l) g.1),
        λ at. let g = is_given at.0 at.2 in
            let same : g.0 ≡ Location l = sym (agreed at.0 g.0 g.1) ∙ at.3 in
            listed l (control p s) (all_at p layout s.left p 0 fits l at.0 (subst (λ z. Member (at.0, z) at_all) same g.1)),
      );
    }

pub reached_meets : (p : Processes) (initial : Formula) → WellFormed p → (s : State) → Reached p initial s → MeetsControl p s
reached_meets p initial w s r =
    let layout = layout_of p w in
    let fits = reached_good p layout (ends_of p w) (apart_of p w) initial r in
    (place_of p layout w.placed s fits, meets p layout w.placed s fits)
