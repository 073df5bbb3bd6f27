-- In a program the choices that the walk makes of a component are its alternatives.
--
-- The own locations of a part of the text are an interval, but for the one that it takes over. So two parts side by side
-- have at most that one in common, and what is read at each location, once, is read part by part.
use Rattle.std.proofs.Common.{◌≡◌, ◌≢◌, ℕ, suc, ◌<◌, ◌≤◌, true, false, List, [], ◌∷◌, ◌++◌, map, refl, sym, ap, ◌∙◌, subst, ◌⊎◌, inl, inr, arith}
use Rattle.std.specs.Prelude.{◌==◌, if◌then◌else◌, flat_map}
use Rattle.std.proofs.lemmas.Bool.Decides.{nat_tests}
use Rattle.std.proofs.lemmas.List.{append-nil}
use Rattle.st_program.specs.Tree.{Statement, stated, Action, skip, if_then, if_else, while_do, block, select, cooperate, Statements, no_statement, statement, process, Processes, no_process, beside, location}
use Rattle.st_program.specs.Member.{Member, here, there}
use Rattle.st_program.specs.Locations.{location_end, within_end, head_end, along_end, among_end, inside_end, IsPlaced, WithinPlaced, HeadPlaced, AlongPlaced, AmongPlaced}
use Rattle.control_states.specs.declared.alternative.Alternative.{Alternative}
use Rattle.control_states.specs.declared.alternative.Alternative.TheVariants.{Location, Inside}
use Rattle.control_facts.specs.Alternatives.{own, own_within, own_among, once, inside_at, alternatives_at, alternatives_of}
use Rattle.control_facts.specs.Walk.{heads, heads_first, heads_among, choices, further, choices_along, choices_among, choices_of}
use Rattle.control_facts.proofs.Onces.{nowhere, in_either, but, but_same, of_but, of_once, but_absent, but_twice, once_append, flat_append, flat_same, flat_none, map_append, in_map}
use Rattle.basic_laws.proofs.Types.{either}

mutual
  pub grow : (s : Statement) (f : ℕ) → f ≤ location_end s f
  grow (stated o l a) f = grow_within a f

  pub grow_within : (a : Action) (f : ℕ) → f ≤ within_end a f
  grow_within (if_then t y) f = let h = grow y (suc f) in omega arith
  grow_within (if_else t y n) f = let h = grow y (suc f) in let g = grow n (suc (location_end y (suc f))) in omega arith
  grow_within (while_do t b) f = let h = grow b (suc f) in omega arith
  grow_within (block ss) f = grow_head ss f
  grow_within (select ss) f = grow_among ss f
  grow_within (cooperate ps) f = grow_inside ps f
  grow_within skip f = omega arith
  grow_within _ f = omega arith

  pub grow_head : (ss : Statements) (f : ℕ) → f ≤ head_end ss f
  grow_head no_statement f = omega arith
  grow_head (statement s ss) f = let h = grow s f in let g = grow_along ss (location_end s f) in omega arith

  pub grow_along : (ss : Statements) (f : ℕ) → f ≤ along_end ss f
  grow_along no_statement f = omega arith
  grow_along (statement s ss) f = let h = grow s (suc f) in let g = grow_along ss (location_end s (suc f)) in omega arith

  pub grow_among : (ss : Statements) (f : ℕ) → f ≤ among_end ss f
  grow_among no_statement f = omega arith
  grow_among (statement s ss) f = let h = grow s f in let g = grow_among ss (location_end s f) in omega arith

  pub grow_inside : (ps : Processes) (f : ℕ) → f ≤ inside_end ps f
  grow_inside no_process f = omega arith
  grow_inside (beside (process ss end) ps) f = let h = grow_along ss f in let g = grow_inside ps (suc (along_end ss f)) in omega arith

-- the locations of statements
abbrev places : List Statement → List ℕ
places xs = map location xs

places_cases : (l : ℕ) (xs ys : List Statement) → Member l (places (xs ++ ys)) → Member l (places xs) ⊎ Member l (places ys)
places_cases l xs ys m = in_either (places xs) (subst (Member l) (map_append location xs ys) m)

-- a location is the one that is taken over, or lies between
pub record Within (w low high l : ℕ) : Type 0 where
  pub is : (l ≡ w) ⊎ ((low ≤ l) × (l < high))

pub record Between (low high l : ℕ) : Type 0 where
  pub low_le : low ≤ l
  pub lt_high : l < high

-- wider bounds
wide : (w low high low' high' l : ℕ) → low' ≤ low → high ≤ high' → Within w low high l → Within w low' high' l
wide w low high low' high' l a b h = record { is = either h.is (λ e. inl e) (λ q. let x : low ≤ l = q.0 in let y : l < high = q.1 in inr (omega arith, omega arith)) }

fresh_between : (f high l : ℕ) → suc f ≤ high → Within f (suc f) high l → Between f high l
fresh_between f high l b h = either h.is
    (λ e. let q : l ≡ f = e in record { low_le = omega arith; lt_high = omega arith })
    (λ q. let x : suc f ≤ l = q.0 in let y : l < high = q.1 in record { low_le = omega arith; lt_high = omega arith })

within_of : (w low high low' high' l : ℕ) → low' ≤ low → high ≤ high' → Between low high l → Within w low' high' l
within_of w low high low' high' l a b h = record { is = inr ((let x = h.low_le in omega arith), (let y = h.lt_high in omega arith)) }

between_wide : (low high low' high' l : ℕ) → low' ≤ low → high ≤ high' → Between low high l → Between low' high' l
between_wide low high low' high' l a b h = record { low_le = let x = h.low_le in omega arith; lt_high = let y = h.lt_high in omega arith }

fresh_of : (s : Statement) (f l : ℕ) → Within f (suc f) (location_end s (suc f)) l → Between f (location_end s (suc f)) l
fresh_of s f l h = fresh_between f _ l (grow s (suc f)) h

-- where the own locations of a part are
mutual
  range : (s : Statement) (w f : ℕ) → IsPlaced s w f → (l : ℕ) → Member l (places (own s)) → Within w f (location_end s f) l
  range (stated o k a) w f h l (here e) = record { is = inl (e ∙ h.0) }
  range (stated o k a) w f h l (there m) = range_within a w f h.1 l m

  range_within : (a : Action) (w f : ℕ) → WithinPlaced a w f → (l : ℕ) → Member l (places (own_within a)) → Within w f (within_end a f) l
  range_within (if_then t y) w f h l m = within_of w f _ f _ l (omega arith) (omega arith) (fresh_of y f l (range y f (suc f) h l m))
  range_within (if_else t y n) w f h l m =
      let g = location_end y (suc f) in
      let a = grow y (suc f) in let b = grow n (suc g) in
      either (places_cases l (own y) (own n) m)
      (λ m. within_of w f g f _ l (omega arith) (omega arith) (fresh_of y f l (range y f (suc f) h.0 l m)))
      (λ m. within_of w g _ f _ l (omega arith) (omega arith) (fresh_of n g l (range n g (suc g) h.1 l m)))
  range_within (while_do t b) w f h l m = within_of w f _ f _ l (omega arith) (omega arith) (fresh_of b f l (range b f (suc f) h l m))
  range_within (block ss) w f h l m = range_head ss w f h l m
  range_within (select ss) w f h l m = range_among ss w f h l m
  range_within (cooperate ps) w f h l m = nowhere m
  range_within skip w f h l m = nowhere m
  range_within _ w f h l m = nowhere m

  range_head : (ss : Statements) (w f : ℕ) → HeadPlaced ss w f → (l : ℕ) → Member l (places (own_among ss)) → Within w f (head_end ss f) l
  range_head no_statement w f h l m = nowhere m
  range_head (statement s ss) w f h l m =
      let g = location_end s f in
      let a = grow s f in let b = grow_along ss g in
      either (places_cases l (own s) (own_among ss) m)
      (λ m. wide w f g f _ l (omega arith) b (range s w f h.0 l m))
      (λ m. within_of w g _ f _ l a (omega arith) (range_along ss g h.1 l m))

  range_along : (ss : Statements) (f : ℕ) → AlongPlaced ss f → (l : ℕ) → Member l (places (own_among ss)) → Between f (along_end ss f) l
  range_along no_statement f h l m = nowhere m
  range_along (statement s ss) f h l m =
      let g = location_end s (suc f) in
      let a = grow s (suc f) in let b = grow_along ss g in
      either (places_cases l (own s) (own_among ss) m)
      (λ m. between_wide f g f _ l (omega arith) b (fresh_of s f l (range s f (suc f) h.0 l m)))
      (λ m. between_wide g _ f _ l (omega arith) (omega arith) (range_along ss g h.1 l m))

  range_among : (ss : Statements) (w f : ℕ) → AmongPlaced ss w f → (l : ℕ) → Member l (places (own_among ss)) → Within w f (among_end ss f) l
  range_among no_statement w f h l m = nowhere m
  range_among (statement s ss) w f h l m =
      let g = location_end s f in
      let a = grow s f in let b = grow_among ss g in
      either (places_cases l (own s) (own_among ss) m)
      (λ m. wide w f g f _ l (omega arith) b (range s w f h.0 l m))
      (λ m. wide w g _ f _ l a (omega arith) (range_among ss w g h.1 l m))

range_fresh : (s : Statement) (f : ℕ) → IsPlaced s f (suc f) → (l : ℕ) → Member l (places (own s)) → Between f (location_end s (suc f)) l
range_fresh s f h l m = fresh_of s f l (range s f (suc f) h l m)

-- what is read at all locations of some statements but b
abbrev others : ℕ → List Statement → List Alternative
others b xs = flat_map (alternatives_at xs) (but b (once (places xs)))

-- at a location that no statement has there is no inside
other_inside : (l : ℕ) (s : Statement) → location s ≢ l → inside_at l s ≡ []
other_inside l (stated o m (cooperate ps)) d = let e : (l == m) ≡ false = grind (arith, nat_tests) in ap (λ b. if b then Inside o ∷ [] else []) e
other_inside l (stated o m skip) d = refl
other_inside l (stated o m _) d = refl

none_inside : (l : ℕ) (xs : List Statement) → (Member l (places xs) → ⊥) → flat_map (inside_at l) xs ≡ []
none_inside l xs h = flat_none (inside_at l) xs (λ s m. other_inside l s (λ e. h (subst (λ z. Member z (places xs)) e (in_map location m))))

in_other : (b l : ℕ) (xs : List Statement) → Member l (but b (once (places xs))) → Member l (places xs) × (l ≢ b)
in_other b l xs m = let r = of_but b l (once (places xs)) m in (of_once l (places xs) r.0, r.1)

others_append : (b : ℕ) (xs ys : List Statement) (us vs : List Alternative) → ((l : ℕ) → Member l (places xs) → Member l (places ys) → l ≡ b)
    → others b xs ≡ us → others b ys ≡ vs → others b (xs ++ ys) ≡ us ++ vs
others_append b xs ys us vs h p q =
    ap (λ z. flat_map (alternatives_at (xs ++ ys)) (but b (once z))) (map_append location xs ys)
    ∙ ap (flat_map (alternatives_at (xs ++ ys))) (once_append b (places xs) (places ys) h)
    ∙ flat_append (alternatives_at (xs ++ ys)) (but b (once (places xs))) (but b (once (places ys)))
    ∙ ap (λ z. z ++ flat_map (alternatives_at (xs ++ ys)) (but b (once (places ys)))) (flat_same (alternatives_at (xs ++ ys)) (alternatives_at xs) (but b (once (places xs)))
    (λ l m. (let r = in_other b l xs m in
    ap (λ z. Location l ∷ z) (flat_append (inside_at l) xs ys ∙ ap (λ z. flat_map (inside_at l) xs ++ z) (none_inside l ys (λ n. r.1 (h l r.0 n))) ∙ append-nil (flat_map (inside_at l) xs)))))
    ∙ ap (λ z. others b xs ++ z) (flat_same (alternatives_at (xs ++ ys)) (alternatives_at ys) (but b (once (places ys)))
    (λ l m. (let r = in_other b l ys m in
    ap (λ z. Location l ∷ z) (flat_append (inside_at l) xs ys ∙ ap (λ z. z ++ flat_map (inside_at l) ys) (none_inside l xs (λ n. r.1 (h l n r.0)))))))
    ∙ ap (λ z. z ++ others b ys) p ∙ ap (λ z. us ++ z) q

-- the first location, where it isn't b
others_first : (b : ℕ) (s : Statement) (xs : List Statement) → ((l : ℕ) → Member l (places (s ∷ xs)) → l ≢ b)
    → others b (s ∷ xs) ≡ alternatives_at (s ∷ xs) (location s) ++ others (location s) (s ∷ xs)
others_first b s xs h =
    let m = location s in
    let rest = once (places xs) in
    let all : List Statement = s ∷ xs in
    ap (flat_map (alternatives_at all)) (but_absent b (m ∷ but m rest) (λ y i. h y (of_once y (places all) i)))
    ∙ ap (λ z. alternatives_at all m ++ flat_map (alternatives_at all) z) (sym (but_same m m (but m rest) refl ∙ but_twice m rest))

-- where it is b, it is left out
others_head : (b : ℕ) (s : Statement) (xs : List Statement) → location s ≡ b → others b (s ∷ xs) ≡ others b xs
others_head b s xs e =
    let m = location s in
    let rest = once (places xs) in
    let all : List Statement = s ∷ xs in
    let left : but b (m ∷ but m rest) ≡ but b rest = but_same m b (but m rest) e ∙ ap (λ z. but b (but z rest)) e ∙ but_twice b rest in
    ap (flat_map (alternatives_at all)) left
    ∙ flat_same (alternatives_at all) (alternatives_at xs) (but b rest)
    (λ l i. (let r = of_but b l rest i in ap (λ z. Location l ∷ (z ++ flat_map (inside_at l) xs)) (other_inside l s (λ q. r.1 (sym q ∙ e)))))

two_same : {A : Type 0} (xs ys us vs : List A) → xs ≡ us → ys ≡ vs → xs ++ ys ≡ us ++ vs
two_same xs ys us vs e f = ap (λ z. z ++ ys) e ∙ ap (λ z. us ++ z) f

-- the insides at a part's own location
mutual
  at_heads : (s : Statement) (w f : ℕ) → IsPlaced s w f → w < f → flat_map (inside_at w) (own s) ≡ heads s
  at_heads (stated o k (if_then t y)) w f h lt = none_inside w (own y) (λ m. (let r = range_fresh y f h.1 w m in let x = r.low_le in absurd (omega arith)))
  at_heads (stated o k (if_else t y n)) w f h lt =
      let a = grow y (suc f) in
      none_inside w (own y ++ own n) (λ m. either (places_cases w (own y) (own n) m)
      (λ m. (let r = range_fresh y f h.1.0 w m in let x = r.low_le in absurd (omega arith)))
      (λ m. (let r = range_fresh n (location_end y (suc f)) h.1.1 w m in let x = r.low_le in absurd (omega arith))))
  at_heads (stated o k (while_do t b)) w f h lt = none_inside w (own b) (λ m. (let r = range_fresh b f h.1 w m in let x = r.low_le in absurd (omega arith)))
  at_heads (stated o k (block ss)) w f h lt = at_first ss w f h.1 lt
  at_heads (stated o k (select ss)) w f h lt = at_branches ss w f h.1 lt
  at_heads (stated o k (cooperate ps)) w f h lt =
      let e : (w == k) ≡ true = let q : k ≡ w = h.0 in grind (arith, nat_tests) in
      ap (λ b. (if b then Inside o ∷ [] else []) ++ []) e
  at_heads (stated o k skip) w f h lt = refl
  at_heads (stated o k _) w f h lt = refl

  at_first : (ss : Statements) (w f : ℕ) → HeadPlaced ss w f → w < f → flat_map (inside_at w) (own_among ss) ≡ heads_first ss
  at_first no_statement w f h lt = absurd h
  at_first (statement s ss) w f h lt =
      let a = grow s f in
      flat_append (inside_at w) (own s) (own_among ss)
      ∙ ap (λ z. flat_map (inside_at w) (own s) ++ z) (none_inside w (own_among ss) (λ m. (let r = range_along ss (location_end s f) h.1 w m in let x = r.low_le in absurd (omega arith))))
      ∙ append-nil (flat_map (inside_at w) (own s)) ∙ at_heads s w f h.0 lt

  at_branches : (ss : Statements) (w f : ℕ) → AmongPlaced ss w f → w < f → flat_map (inside_at w) (own_among ss) ≡ heads_among ss
  at_branches no_statement w f h lt = refl
  at_branches (statement s ss) w f h lt =
      let a = grow s f in
      flat_append (inside_at w) (own s) (own_among ss)
      ∙ two_same _ _ _ _ (at_heads s w f h.0 lt) (at_branches ss w (location_end s f) h.1 (omega arith))

-- b is none of the locations of an interval
abbrev IsOutside : ℕ → ℕ → ℕ → Type 0
IsOutside b low high = (l : ℕ) → low ≤ l → l < high → l ≢ b

mutual
  taken_over : (s : Statement) (w f : ℕ) → IsPlaced s w f → w < f → others w (own s) ≡ choices false s
  taken_over (stated o k a) w f h lt = others_head w (stated o k a) (own_within a) h.0 ∙ inner a w f h.1 lt

  inner : (a : Action) (w f : ℕ) → WithinPlaced a w f → w < f → others w (own_within a) ≡ further a
  inner (if_then t y) w f h lt = fresh y w f h (λ l x y. omega arith)
  inner (if_else t y n) w f h lt =
      let g = location_end y (suc f) in
      let a = grow y (suc f) in
      others_append w (own y) (own n) _ _
      (λ l i j. (let r = range_fresh y f h.0 l i in let q = range_fresh n g h.1 l j in let x = r.lt_high in let z = q.low_le in absurd (omega arith)))
      (fresh y w f h.0 (λ l x y. omega arith)) (fresh n w g h.1 (λ l x y. omega arith))
  inner (while_do t b) w f h lt = fresh b w f h (λ l x y. omega arith)
  inner (block ss) w f h lt = first_taken ss w f h lt
  inner (select ss) w f h lt = branches ss w f h lt
  inner (cooperate ps) w f h lt = refl
  inner skip w f h lt = refl
  inner _ w f h lt = refl

  -- a statement with a location of its own
  fresh : (s : Statement) (w f : ℕ) → IsPlaced s f (suc f) → IsOutside w f (location_end s (suc f)) → others w (own s) ≡ choices true s
  fresh (stated o k a) w f h out =
      let s = stated o k a in
      let here_is : k ≡ f = h.0 in
      others_first w s (own_within a) (λ l m. (let r = range_fresh s f h l m in out l r.low_le r.lt_high))
      ∙ ap (λ z. Location k ∷ (z ++ others k (own s))) (subst (λ z. flat_map (inside_at z) (own s) ≡ heads s) (sym here_is) (at_heads s f (suc f) h (omega arith)))
      ∙ ap (λ z. Location k ∷ (heads s ++ z)) (subst (λ z. others z (own s) ≡ further a) (sym here_is) (others_head f s (own_within a) h.0 ∙ inner a f (suc f) h.1 (omega arith)))

  first_taken : (ss : Statements) (w f : ℕ) → HeadPlaced ss w f → w < f → others w (own_among ss) ≡ choices_along false ss
  first_taken no_statement w f h lt = absurd h
  first_taken (statement s ss) w f h lt =
      let g = location_end s f in
      let a = grow s f in
      others_append w (own s) (own_among ss) _ _
      (λ l i j. (let r = range s w f h.0 l i in let q = range_along ss g h.1 l j in let z = q.low_le in
      either r.is (λ e. e) (λ p. let y : l < g = p.1 in absurd (omega arith))))
      (taken_over s w f h.0 lt) (along ss w g h.1 (λ l x y. omega arith))

  along : (ss : Statements) (w f : ℕ) → AlongPlaced ss f → IsOutside w f (along_end ss f) → others w (own_among ss) ≡ choices_along true ss
  along no_statement w f h out = refl
  along (statement s ss) w f h out =
      let g = location_end s (suc f) in
      let a = grow s (suc f) in let b = grow_along ss g in
      others_append w (own s) (own_among ss) _ _
      (λ l i j. (let r = range_fresh s f h.0 l i in let q = range_along ss g h.1 l j in let x = r.lt_high in let z = q.low_le in absurd (omega arith)))
      (fresh s w f h.0 (λ l x y. out l x (omega arith))) (along ss w g h.1 (λ l x y. out l (omega arith) y))

  branches : (ss : Statements) (w f : ℕ) → AmongPlaced ss w f → w < f → others w (own_among ss) ≡ choices_among ss
  branches no_statement w f h lt = refl
  branches (statement s ss) w f h lt =
      let g = location_end s f in
      let a = grow s f in
      others_append w (own s) (own_among ss) _ _
      (λ l i j. (let r = range s w f h.0 l i in let q = range_among ss w g h.1 l j in
      either r.is (λ e. e) (λ p. either q.is (λ e. e) (λ z. let x : l < g = p.1 in let y : g ≤ l = z.0 in absurd (omega arith)))))
      (taken_over s w f h.0 lt) (branches ss w g h.1 (omega arith))

-- the alternatives of a component
pub choices_are : (ss : Statements) (f end : ℕ) → AlongPlaced ss f → choices_of ss end ≡ alternatives_of ss end
choices_are ss f end h =
    let b = along_end ss f in
    ap (λ z. z ++ Location end ∷ []) (
    sym (along ss b f h (λ l x y. omega arith))
    ∙ ap (flat_map (alternatives_at (own_among ss))) (but_absent b (once (places (own_among ss)))
    (λ l m. (let r = range_along ss f h l (of_once l (places (own_among ss)) m) in let y = r.lt_high in omega arith))))
