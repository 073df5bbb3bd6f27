-- The components of a program: what stands at their numbers, and of which component each location is.
use Rattle.std.proofs.Common.{◌≡◌, ◌≢◌, ℕ, suc, ◌+◌, Bool, true, false, List, [], ◌∷◌, ◌++◌, map, length, Option, Some, refl, sym, ap, ◌∙◌, subst, inl, inr, arith, length-append}
use Rattle.std.specs.Prelude.{slice_get, flat_map, filter, not, ◌==◌, if◌then◌else◌}
use Rattle.std.proofs.lemmas.Bool.Decides.{nat_tests}
use Rattle.st_program.specs.Tree.{Statement, stated, Action, skip, if_then, if_else, while_do, block, select, cooperate, Statements, no_statement, statement, process, Processes, no_process, beside, location, action}
use Rattle.st_program.specs.Member.{Member, here, there}
use Rattle.st_program.specs.Spots.{entry, bodies, bodies_inside, bodies_in, bodies_of, Spot, at_spot}
use Rattle.st_program.specs.Locations.{location_end, IsPlaced, HeadPlaced, AlongPlaced, AmongPlaced, InsidePlaced}
use Rattle.control_states.specs.declared.alternative.Alternative.{Alternative}
use Rattle.control_states.specs.declared.alternative.Alternative.TheVariants.{Location, Inside as Held}
use Rattle.control_states.specs.Control.{ComponentFacts, IsOneOf}
use Rattle.control_facts.specs.Alternatives.{own, own_within, own_among, once, inside_at, alternatives_at, alternatives_of, strands, strands_within, strands_among, strands_inside, owners, owners_head, owners_along, owners_among, owners_inside}
use Rattle.control_facts.proofs.Owners.{owned}
use Rattle.spl_semantics.proofs.Members.{member_none, member_left, member_right, member_cases, map_member}
use Rattle.spl_semantics.proofs.Texts.{near, near_within, near_along, near_among}
use Rattle.basic_laws.proofs.Types.{either}
use Rattle.spl_semantics.proofs.Bodies.{HasAt, has_front, has_back}
use Rattle.basic_laws.proofs.Numbers.{same_test}

-- a statement near in a part of the text is one of its own
mutual
  near_own : (y : Spot) (s : Statement) (e c : ℕ) → Member y (near s e c) → Member y.stmt (own s)
  near_own y (stated o l a) e c (here q) = here (ap (λ z. z.stmt) q)
  near_own y (stated o l a) e c (there m) = there (near_own_within y a l e c m)

  near_own_within : (y : Spot) (a : Action) (l e c : ℕ) → Member y (near_within a l e c) → Member y.stmt (own_within a)
  near_own_within y (if_then t s) l e c m = near_own y s e c m
  near_own_within y (if_else t s r) l e c m =
      either (member_cases (near s e c) m) (λ m. member_left _ (near_own y s e c m)) (λ m. member_right (own s) (near_own y r e _ m))
  near_own_within y (while_do t s) l e c m = near_own y s l c m
  near_own_within y (block ss) l e c m = near_own_along y ss e c m
  near_own_within y (select ss) l e c m = near_own_among y ss e c m
  near_own_within y skip l e c m = member_none m
  near_own_within y _ l e c m = member_none m

  pub near_own_along : (y : Spot) (ss : Statements) (e c : ℕ) → Member y (near_along ss e c) → Member y.stmt (own_among ss)
  near_own_along y no_statement e c m = member_none m
  near_own_along y (statement s ss) e c m =
      either (member_cases (near s (entry ss e) c) m) (λ m. member_left _ (near_own y s _ c m)) (λ m. member_right (own s) (near_own_along y ss e _ m))

  near_own_among : (y : Spot) (ss : Statements) (e c : ℕ) → Member y (near_among ss e c) → Member y.stmt (own_among ss)
  near_own_among y no_statement e c m = member_none m
  near_own_among y (statement s ss) e c m =
      either (member_cases (near s e c) m) (λ m. member_left _ (near_own y s e c m)) (λ m. member_right (own s) (near_own_among y ss e _ m))

filtered : (x y : ℕ) (xs : List ℕ) → y ≢ x → Member y xs → Member y (filter (λ z. not (z == x)) xs)
filtered x y [] d m = member_none m
filtered x y (z ∷ xs) d (here q) = at_test (z == x) refl
  where
    at_test : (b : Bool) → (z == x) ≡ b → Member y (if not b then z ∷ filter (λ w. not (w == x)) xs else filter (λ w. not (w == x)) xs)
    at_test true e = let same : z ≡ x = grind (arith, nat_tests) in absurd (d (q ∙ same))
    at_test false e = here q
filtered x y (z ∷ xs) d (there m) = at_test (z == x) (filtered x y xs d m)
  where
    at_test : (b : Bool) → Member y (filter (λ w. not (w == x)) xs) → Member y (if not b then z ∷ filter (λ w. not (w == x)) xs else filter (λ w. not (w == x)) xs)
    at_test true i = i
    at_test false i = there i

in_once : (y : ℕ) (xs : List ℕ) → Member y xs → Member y (once xs)
in_once y [] m = member_none m
in_once y (x ∷ xs) (here q) = here q
in_once y (x ∷ xs) (there m) = at_test (y == x) refl (in_once y xs m)
  where
    at_test : (b : Bool) → (y == x) ≡ b → Member y (once xs) → Member y (x ∷ filter (λ w. not (w == x)) (once xs))
    at_test true e i = here (grind (arith, nat_tests))
    at_test false e i = there (filtered x y (once xs) (grind (arith, nat_tests)) i)

in_flat : {X Y : Type 0} (f : X → List Y) (x : X) (y : Y) (xs : List X) → Member x xs → Member y (f x) → Member y (flat_map f xs)
in_flat f x y [] m i = member_none m
in_flat f x y (z ∷ xs) (here q) i = member_left _ (subst (λ w. Member y (f w)) q i)
in_flat f x y (z ∷ xs) (there m) i = member_right (f z) (in_flat f x y xs m i)

pub one_of : (a : Alternative) (bs : List Alternative) → Member a bs → IsOneOf a bs
one_of a [] m = member_none m
one_of a (b ∷ bs) (here q) = inl q
one_of a (b ∷ bs) (there m) = inr (one_of a bs m)

-- what a component can be at
pub at_end : (ss : Statements) (end : ℕ) → Member (Location end) (alternatives_of ss end)
at_end ss end = member_right (flat_map (alternatives_at (own_among ss)) (once (map location (own_among ss)))) (here refl)

pub at_statement : (ss : Statements) (end : ℕ) (s : Statement) → Member s (own_among ss) → Member (Location (location s)) (alternatives_of ss end)
at_statement ss end s m =
    member_left _ (in_flat (alternatives_at (own_among ss)) (location s) _ _ (in_once (location s) _ (map_member location m)) (here refl))

pub at_inside : (ss : Statements) (end o l : ℕ) (ps : Processes) → Member (stated o l (cooperate ps)) (own_among ss) → Member (Held o) (alternatives_of ss end)
at_inside ss end o l ps m =
    let is : Member (Held o) (inside_at l (stated o l (cooperate ps))) = subst (λ b. Member (Held o) (if b then Held o ∷ [] else [])) (sym (same_test l)) (here refl) in
    member_left _ (in_flat (alternatives_at (own_among ss)) l _ _ (in_once l _ (map_member location m)) (there (in_flat (inside_at l) (stated o l (cooperate ps)) _ _ m is)))

-- as many components as bodies
mutual
  pub count : (s : Statement) (c n : ℕ) → length (strands s c n) ≡ length (bodies s)
  count (stated o l a) c n = count_within a o c n

  count_within : (a : Action) (o c n : ℕ) → length (strands_within a o c n) ≡ length (bodies_inside a)
  count_within (if_then t s) o c n = count s c n
  count_within (if_else t s r) o c n =
      let a = length-append (strands s c n) (strands r c (n + length (bodies s))) in
      let b = length-append (bodies s) (bodies r) in
      let x = count s c n in let y = count r c (n + length (bodies s)) in omega arith
  count_within (while_do t s) o c n = count s c n
  count_within (block ss) o c n = count_among ss c n
  count_within (select ss) o c n = count_among ss c n
  count_within (cooperate ps) o c n = count_inside ps (Some (c, o)) n
  count_within skip o c n = refl
  count_within _ o c n = refl

  pub count_among : (ss : Statements) (c n : ℕ) → length (strands_among ss c n) ≡ length (bodies_in ss)
  count_among no_statement c n = refl
  count_among (statement s ss) c n =
      let a = length-append (strands s c n) (strands_among ss c (n + length (bodies s))) in
      let b = length-append (bodies s) (bodies_in ss) in
      let x = count s c n in let y = count_among ss c (n + length (bodies s)) in omega arith

  pub count_inside : (ps : Processes) (around : Option (ℕ × ℕ)) (n : ℕ) → length (strands_inside ps around n) ≡ length (bodies_of ps)
  count_inside no_process around n = refl
  count_inside (beside (process ss end) ps) around n =
      let a = length-append (strands_among ss n (suc n)) (strands_inside ps around (suc n + length (bodies_in ss))) in
      let b = length-append (bodies_in ss) (bodies_of ps) in
      let x = count_among ss n (suc n) in let y = count_inside ps around (suc n + length (bodies_in ss)) in omega arith

-- the components that stand in a statement near in a part of the text have their places in the list
module _ (all : List ComponentFacts) (c : ℕ) (y : Spot) where
  abbrev Placed : Type 0
  Placed = HasAt all y.before (strands y.stmt c y.before)

  mutual
    near_strands : (s : Statement) (e n : ℕ) → HasAt all n (strands s c n) → Member y (near s e n) → Placed
    near_strands (stated o l a) e n h (here q) = subst (λ z. HasAt all z.before (strands z.stmt c z.before)) (sym q) h
    near_strands (stated o l a) e n h (there m) = near_strands_within a o l e n h m

    near_strands_within : (a : Action) (o l e n : ℕ) → HasAt all n (strands_within a o c n) → Member y (near_within a l e n) → Placed
    near_strands_within (if_then t s) o l e n h m = near_strands s e n h m
    near_strands_within (if_else t s r) o l e n h m =
        either (member_cases (near s e n) m)
        (λ m. near_strands s e n (has_front all n (strands s c n) _ h) m)
        (λ m. near_strands r e (n + length (bodies s)) (subst (λ k. HasAt all k (strands r c (n + length (bodies s)))) (ap (λ z. n + z) (count s c n)) (has_back all n (strands s c n) _ h)) m)
    near_strands_within (while_do t s) o l e n h m = near_strands s l n h m
    near_strands_within (block ss) o l e n h m = near_strands_along ss e n h m
    near_strands_within (select ss) o l e n h m = near_strands_among ss e n h m
    near_strands_within skip o l e n h m = member_none m
    near_strands_within _ o l e n h m = member_none m

    pub near_strands_along : (ss : Statements) (e n : ℕ) → HasAt all n (strands_among ss c n) → Member y (near_along ss e n) → Placed
    near_strands_along no_statement e n h m = member_none m
    near_strands_along (statement s ss) e n h m =
        either (member_cases (near s (entry ss e) n) m)
        (λ m. near_strands s _ n (has_front all n (strands s c n) _ h) m)
        (λ m. near_strands_along ss e _ (subst (λ k. HasAt all k (strands_among ss c (n + length (bodies s)))) (ap (λ z. n + z) (count s c n)) (has_back all n (strands s c n) _ h)) m)

    near_strands_among : (ss : Statements) (e n : ℕ) → HasAt all n (strands_among ss c n) → Member y (near_among ss e n) → Placed
    near_strands_among no_statement e n h m = member_none m
    near_strands_among (statement s ss) e n h m =
        either (member_cases (near s e n) m)
        (λ m. near_strands s _ n (has_front all n (strands s c n) _ h) m)
        (λ m. near_strands_among ss e _ (subst (λ k. HasAt all k (strands_among ss c (n + length (bodies s)))) (ap (λ z. n + z) (count s c n)) (has_back all n (strands s c n) _ h)) m)

-- of which component the location of a statement is, and those of the children in it
module _ (all : List ℕ) (c : ℕ) (y : Spot) where
  pub record Owned : Type 0 where
    pub own : slice_get all (location y.stmt) ≡ Some c
    pub inner : (ps : Processes) → action y.stmt ≡ cooperate ps → (f : ℕ) × InsidePlaced ps f × HasAt all f (owners_inside ps y.before)

  here_owned : (o l : ℕ) (a : Action) (e n f : ℕ) → y ≡ at_spot (stated o l a) e n → slice_get all l ≡ Some c → ((ps : Processes) → a ≡ cooperate ps → (f : ℕ) × InsidePlaced ps f × HasAt all f (owners_inside ps n)) → Owned
  here_owned o l a e n f q g i = record {
    own = subst (λ z. slice_get all (location z.stmt) ≡ Some c) (sym q) g;
    inner = λ ps r. subst (λ z. (f : ℕ) × InsidePlaced ps f × HasAt all f (owners_inside ps z.before)) (sym q) (i ps (sym (ap (λ z. action z.stmt) q) ∙ r));
  }

  -- from one place of the list on to the next
  next_at : (f g : ℕ) (xs zs : List ℕ) → f + length xs ≡ g → HasAt all f (xs ++ zs) → HasAt all g zs
  next_at f g xs zs e h = subst (λ k. HasAt all k zs) e (has_back all f xs zs h)

  mutual
    near_owned : (s : Statement) (own f e n : ℕ) → IsPlaced s own f → slice_get all own ≡ Some c → HasAt all f (owners s c n) → Member y (near s e n) → Owned
    near_owned (stated o l (cooperate ps)) own f e n h g at (here q) =
        here_owned o l (cooperate ps) e n f q (subst (λ k. slice_get all k ≡ Some c) (sym h.0) g)
        (λ qs r. (f, let same : ps ≡ qs = cc in subst (λ z. InsidePlaced z f) same h.1.1, let same : ps ≡ qs = cc in subst (λ z. HasAt all f (owners_inside z n)) same at))
    near_owned (stated o l (cooperate ps)) own f e n h g at (there m) = member_none m
    near_owned (stated o l (if_then t s)) own f e n h g at (here q) = here_owned o l (if_then t s) e n f q (subst (λ k. slice_get all k ≡ Some c) (sym h.0) g) (λ qs r. cc)
    near_owned (stated o l (if_then t s)) own f e n h g at (there m) = near_owned s f (suc f) e n h.1 at.0 at.1 m
    near_owned (stated o l (if_else t s r)) own f e n h g at (here q) = here_owned o l (if_else t s r) e n f q (subst (λ k. slice_get all k ≡ Some c) (sym h.0) g) (λ qs r. cc)
    near_owned (stated o l (if_else t s r)) own f e n h g at (there m) =
        let further = next_at (suc f) (location_end s (suc f)) (owners s c n) (c ∷ owners r c (n + length (bodies s))) (owned s c n (suc f)) at.1 in
        either (member_cases (near s e n) m)
        (λ m. near_owned s f (suc f) e n h.1.0 at.0 (has_front all (suc f) (owners s c n) _ at.1) m)
        (λ m. near_owned r (location_end s (suc f)) (suc (location_end s (suc f))) e _ h.1.1 further.0 further.1 m)
    near_owned (stated o l (while_do t s)) own f e n h g at (here q) = here_owned o l (while_do t s) e n f q (subst (λ k. slice_get all k ≡ Some c) (sym h.0) g) (λ qs r. cc)
    near_owned (stated o l (while_do t s)) own f e n h g at (there m) = near_owned s f (suc f) l n h.1 at.0 at.1 m
    near_owned (stated o l (block ss)) own f e n h g at (here q) = here_owned o l (block ss) e n f q (subst (λ k. slice_get all k ≡ Some c) (sym h.0) g) (λ qs r. cc)
    near_owned (stated o l (block ss)) own f e n h g at (there m) = near_owned_head ss own f e n h.1 g at m
    near_owned (stated o l (select ss)) own f e n h g at (here q) = here_owned o l (select ss) e n f q (subst (λ k. slice_get all k ≡ Some c) (sym h.0) g) (λ qs r. cc)
    near_owned (stated o l (select ss)) own f e n h g at (there m) = near_owned_among ss own f e n h.1 g at m
    near_owned (stated o l skip) own f e n h g at (here q) = here_owned o l skip e n f q (subst (λ k. slice_get all k ≡ Some c) (sym h.0) g) (λ qs r. cc)
    near_owned (stated o l a) own f e n h g at (here q) = here_owned o l a e n f q (subst (λ k. slice_get all k ≡ Some c) (sym h.0) g) (λ qs r. cc)
    near_owned (stated o l a) own f e n h g at (there m) = member_none m

    near_owned_head : (ss : Statements) (own f e n : ℕ) → HeadPlaced ss own f → slice_get all own ≡ Some c → HasAt all f (owners_head ss c n) → Member y (near_along ss e n) → Owned
    near_owned_head no_statement own f e n h g at m = member_none m
    near_owned_head (statement s ss) own f e n h g at m =
        either (member_cases (near s (entry ss e) n) m)
        (λ m. near_owned s own f _ n h.0 g (has_front all f (owners s c n) _ at) m)
        (λ m. near_owned_along ss (location_end s f) e _ h.1 (next_at f (location_end s f) (owners s c n) _ (owned s c n f) at) m)

    pub near_owned_along : (ss : Statements) (f e n : ℕ) → AlongPlaced ss f → HasAt all f (owners_along ss c n) → Member y (near_along ss e n) → Owned
    near_owned_along no_statement f e n h at m = member_none m
    near_owned_along (statement s ss) f e n h at m =
        either (member_cases (near s (entry ss e) n) m)
        (λ m. near_owned s f (suc f) _ n h.0 at.0 (has_front all (suc f) (owners s c n) _ at.1) m)
        (λ m. near_owned_along ss (location_end s (suc f)) e _ h.1 (next_at (suc f) (location_end s (suc f)) (owners s c n) _ (owned s c n (suc f)) at.1) m)

    near_owned_among : (ss : Statements) (own f e n : ℕ) → AmongPlaced ss own f → slice_get all own ≡ Some c → HasAt all f (owners_among ss c n) → Member y (near_among ss e n) → Owned
    near_owned_among no_statement own f e n h g at m = member_none m
    near_owned_among (statement s ss) own f e n h g at m =
        either (member_cases (near s e n) m)
        (λ m. near_owned s own f _ n h.0 g (has_front all f (owners s c n) _ at) m)
        (λ m. near_owned_among ss own (location_end s f) e _ h.1 g (next_at f (location_end s f) (owners s c n) _ (owned s c n f) at) m)
