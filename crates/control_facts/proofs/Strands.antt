-- In a program the walk over its text gives its components and the owners of its locations.
use Rattle.std.proofs.Common.{◌≡◌, ℕ, suc, ◌+◌, ◌≤◌, Bool, true, false, List, [], ◌∷◌, ◌++◌, length, Option, Some, None, refl, sym, ap, ◌∙◌, append_assoc, length-append, arith}
use Rattle.std.proofs.lemmas.List.{append-nil}
use Rattle.st_program.specs.Tree.{Statement, stated, Action, skip, if_then, if_else, while_do, block, select, cooperate, Statements, no_statement, statement, process, Processes, no_process, beside}
use Rattle.st_program.specs.Spots.{bodies, bodies_inside, bodies_in, bodies_of, Body}
use Rattle.st_program.specs.Locations.{location_end, within_end, head_end, along_end, among_end, inside_end, IsPlaced, WithinPlaced, HeadPlaced, AlongPlaced, AmongPlaced, InsidePlaced}
use Rattle.control_states.specs.Control.{ComponentFacts, ControlFacts}
use Rattle.control_facts.specs.Alternatives.{alternatives_of, strands, strands_within, strands_among, strands_inside, owners, owners_within, owners_head, owners_along, owners_among, owners_inside, control_of}
use Rattle.control_facts.specs.Walk.{choices_of, with_part, with_owner, walk, walk_within, walk_along, walk_among, walk_inside, nothing_walked}
use Rattle.control_facts.proofs.Own.{choices_are}

-- how many components a part of the text has
two_lengths : {A B : Type 0} (xs ys : List A) (us vs : List B) → length xs ≡ length us → length ys ≡ length vs → length (xs ++ ys) ≡ length (us ++ vs)
two_lengths xs ys us vs e f = length-append xs ys ∙ ap (λ z. z + length ys) e ∙ ap (λ z. length us + z) f ∙ sym (length-append us vs)

mutual
  how_many : (s : Statement) (c n : ℕ) → length (strands s c n) ≡ length (bodies s)
  how_many (stated o l a) c n = how_many_within a o c n

  how_many_within : (a : Action) (o c n : ℕ) → length (strands_within a o c n) ≡ length (bodies_inside a)
  how_many_within (if_then t y) o c n = how_many y c n
  how_many_within (if_else t y z) o c n = two_lengths (strands y c n) (strands z c (n + length (bodies y))) (bodies y) (bodies z) (how_many y c n) (how_many z c (n + length (bodies y)))
  how_many_within (while_do t b) o c n = how_many b c n
  how_many_within (block ss) o c n = how_many_among ss c n
  how_many_within (select ss) o c n = how_many_among ss c n
  how_many_within (cooperate ps) o c n = how_many_inside ps (Some (c, o)) n
  how_many_within skip o c n = refl
  how_many_within _ o c n = refl

  how_many_among : (ss : Statements) (c n : ℕ) → length (strands_among ss c n) ≡ length (bodies_in ss)
  how_many_among no_statement c n = refl
  how_many_among (statement s ss) c n = two_lengths (strands s c n) (strands_among ss c (n + length (bodies s))) (bodies s) (bodies_in ss) (how_many s c n) (how_many_among ss c (n + length (bodies s)))

  pub how_many_inside : (ps : Processes) (around : Option (ℕ × ℕ)) (n : ℕ) → length (strands_inside ps around n) ≡ length (bodies_of ps)
  how_many_inside no_process around n = refl
  how_many_inside (beside (process ss end) ps) around n =
      ap suc (two_lengths (strands_among ss n (suc n)) (strands_inside ps around (suc n + length (bodies_in ss))) (bodies_in ss) (bodies_of ps) (how_many_among ss n (suc n)) (how_many_inside ps around (suc n + length (bodies_in ss))))

-- some components and owners behind others
abbrev with_all : List ComponentFacts → List ℕ → ControlFacts → ControlFacts
with_all parts owned k = record { components = k.components ++ parts; owners = k.owners ++ owned }

all_more : (k : ControlFacts) (p q : List ComponentFacts) (u v : List ℕ) → with_all q v (with_all p u k) ≡ with_all (p ++ q) (u ++ v) k
all_more k p q u v =
    ap (λ z. record { components = z; owners = (k.owners ++ u) ++ v }) (append_assoc k.components p q)
    ∙ ap (λ z. record { components = k.components ++ (p ++ q); owners = z }) (append_assoc k.owners u v)

all_none : (k : ControlFacts) → with_all [] [] k ≡ k
all_none k = ap (λ z. record { components = z; owners = k.owners ++ [] }) (append-nil k.components) ∙ ap (λ z. record { components = k.components; owners = z }) (append-nil k.owners)

owner_all : (c : ℕ) (k : ControlFacts) → with_owner c k ≡ with_all [] (c ∷ []) k
owner_all c k = ap (λ z. record { components = z; owners = k.owners ++ c ∷ [] }) (sym (append-nil k.components))

-- how many components stand before what comes next
count_more : (k : ControlFacts) (n m : ℕ) (parts : List ComponentFacts) (bs : List Body) → length k.components ≡ n → length parts ≡ length bs → m ≡ n + length bs → length (k.components ++ parts) ≡ m
count_more k n m parts bs e f g = length-append k.components parts ∙ ap (λ z. z + length parts) e ∙ ap (λ z. n + z) f ∙ sym g

-- a part behind another
then_all : (k k' : ControlFacts) (p q : List ComponentFacts) (u v : List ℕ) (next : ControlFacts → ControlFacts) → k' ≡ with_all p u k → next (with_all p u k) ≡ with_all q v (with_all p u k) → next k' ≡ with_all (p ++ q) (u ++ v) k
then_all k k' p q u v next e f = ap next e ∙ f ∙ all_more k p q u v

abbrev owned : Bool → Statement → ℕ → ℕ → List ℕ
owned true s c n = c ∷ owners s c n
owned false s c n = owners s c n

abbrev owned_along : Bool → Statements → ℕ → ℕ → List ℕ
owned_along true ss c n = owners_along ss c n
owned_along false ss c n = owners_head ss c n

mutual
  walk_is : (s : Statement) (w f c n : ℕ) (k : ControlFacts) → IsPlaced s w f → length k.components ≡ n → walk false s c k ≡ with_all (strands s c n) (owners s c n) k
  walk_is (stated o l a) w f c n k h e = walk_in a o w f c n k h.1 e

  walk_fresh : (s : Statement) (w f c n : ℕ) (k : ControlFacts) → IsPlaced s w f → length k.components ≡ n → walk true s c k ≡ with_all (strands s c n) (c ∷ owners s c n) k
  walk_fresh (stated o l a) w f c n k h e =
      then_all k (with_owner c k) [] (strands_within a o c n) (c ∷ []) (owners_within a c n) (walk_within a o c) (owner_all c k)
      (walk_in a o w f c n (with_all [] (c ∷ []) k) h.1 (ap length (append-nil k.components) ∙ e))

  walk_in : (a : Action) (o w f c n : ℕ) (k : ControlFacts) → WithinPlaced a w f → length k.components ≡ n → walk_within a o c k ≡ with_all (strands_within a o c n) (owners_within a c n) k
  walk_in (if_then t y) o w f c n k h e = walk_fresh y f (suc f) c n k h e
  walk_in (if_else t y z) o w f c n k h e =
      let m = n + length (bodies y) in
      let g = location_end y (suc f) in
      then_all k (walk true y c k) (strands y c n) (strands z c m) (c ∷ owners y c n) (c ∷ owners z c m) (walk true z c) (walk_fresh y f (suc f) c n k h.0 e)
      (walk_fresh z g (suc g) c m _ h.1 (count_more k n m (strands y c n) (bodies y) e (how_many y c n) refl))
  walk_in (while_do t b) o w f c n k h e = walk_fresh b f (suc f) c n k h e
  walk_in (block ss) o w f c n k h e = head_is ss w f c n k h e
  walk_in (select ss) o w f c n k h e = among_is ss w f c n k h e
  walk_in (cooperate ps) o w f c n k h e = inside_is ps f (Some (c, o)) n k h.1 e
  walk_in skip o w f c n k h e = sym (all_none k)
  walk_in _ o w f c n k h e = sym (all_none k)

  head_is : (ss : Statements) (w f c n : ℕ) (k : ControlFacts) → HeadPlaced ss w f → length k.components ≡ n → walk_along false ss c k ≡ with_all (strands_among ss c n) (owners_head ss c n) k
  head_is no_statement w f c n k h e = absurd h
  head_is (statement s ss) w f c n k h e =
      let m = n + length (bodies s) in
      then_all k (walk false s c k) (strands s c n) (strands_among ss c m) (owners s c n) (owners_along ss c m) (walk_along true ss c) (walk_is s w f c n k h.0 e)
      (along_is ss (location_end s f) c m _ h.1 (count_more k n m (strands s c n) (bodies s) e (how_many s c n) refl))

  along_is : (ss : Statements) (f c n : ℕ) (k : ControlFacts) → AlongPlaced ss f → length k.components ≡ n → walk_along true ss c k ≡ with_all (strands_among ss c n) (owners_along ss c n) k
  along_is no_statement f c n k h e = sym (all_none k)
  along_is (statement s ss) f c n k h e =
      let m = n + length (bodies s) in
      then_all k (walk true s c k) (strands s c n) (strands_among ss c m) (c ∷ owners s c n) (owners_along ss c m) (walk_along true ss c) (walk_fresh s f (suc f) c n k h.0 e)
      (along_is ss (location_end s (suc f)) c m _ h.1 (count_more k n m (strands s c n) (bodies s) e (how_many s c n) refl))

  among_is : (ss : Statements) (w f c n : ℕ) (k : ControlFacts) → AmongPlaced ss w f → length k.components ≡ n → walk_among ss c k ≡ with_all (strands_among ss c n) (owners_among ss c n) k
  among_is no_statement w f c n k h e = sym (all_none k)
  among_is (statement s ss) w f c n k h e =
      let m = n + length (bodies s) in
      then_all k (walk false s c k) (strands s c n) (strands_among ss c m) (owners s c n) (owners_among ss c m) (walk_among ss c) (walk_is s w f c n k h.0 e)
      (among_is ss w (location_end s f) c m _ h.1 (count_more k n m (strands s c n) (bodies s) e (how_many s c n) refl))

  inside_is : (ps : Processes) (f : ℕ) (around : Option (ℕ × ℕ)) (n : ℕ) (k : ControlFacts) → InsidePlaced ps f → length k.components ≡ n → walk_inside ps around k ≡ with_all (strands_inside ps around n) (owners_inside ps n) k
  inside_is no_process f around n k h e = sym (all_none k)
  inside_is (beside (process ss end) ps) f around n k h e =
      let m = suc n + length (bodies_in ss) in
      let part : ComponentFacts = record { alternatives = alternatives_of ss end; around = around } in
      let mine = strands_among ss n (suc n) in
      let one_more : length (with_all (part ∷ []) [] k).components ≡ suc n = length-append k.components (part ∷ []) ∙ (let q = e in omega arith) in
      let part_is : with_part (record { alternatives = choices_of ss end; around = around }) k ≡ with_all (part ∷ []) [] k =
      ap (λ z. with_part (record { alternatives = z; around = around }) k) (choices_are ss f end h.0)
      ∙ ap (λ z. record { components = k.components ++ part ∷ []; owners = z }) (sym (append-nil k.owners)) in
      let behind : with_owner n (walk_along true ss n (with_part (record { alternatives = choices_of ss end; around = around }) k)) ≡ with_all (part ∷ mine) (owners_along ss n (suc n) ++ n ∷ []) k =
      ap (with_owner n) (then_all k _ (part ∷ []) mine [] (owners_along ss n (suc n)) (walk_along true ss n) part_is (along_is ss f n (suc n) _ h.0 one_more))
      ∙ owner_all n (with_all (part ∷ mine) (owners_along ss n (suc n)) k)
      ∙ all_more k (part ∷ mine) [] (owners_along ss n (suc n)) (n ∷ [])
      ∙ ap (λ z. with_all z (owners_along ss n (suc n) ++ n ∷ []) k) (append-nil (part ∷ mine)) in
      ap (λ z. walk_inside ps around (with_owner z (walk_along true ss z (with_part (record { alternatives = choices_of ss end; around = around }) k)))) e
      ∙ then_all k _ (part ∷ mine) (strands_inside ps around m) (owners_along ss n (suc n) ++ n ∷ []) (owners_inside ps m) (walk_inside ps around) behind
      (inside_is ps (suc end) around m _ h.2 (
      length-append k.components (part ∷ mine) ∙ ap (λ z. z + suc (length mine)) e ∙ ap (λ z. n + suc z) (how_many_among ss n (suc n)) ∙ (omega arith)))
      ∙ ap (λ z. with_all ((part ∷ mine) ++ strands_inside ps around m) z k) (append_assoc (owners_along ss n (suc n)) (n ∷ []) (owners_inside ps m))

-- the whole program
pub walked_all : (ps : Processes) → InsidePlaced ps 0 → walk_inside ps None nothing_walked ≡ control_of ps
walked_all ps h = inside_is ps 0 None 0 nothing_walked h refl

-- a program has fewer components than locations, for each has an end
mutual
  fewer : (s : Statement) (f : ℕ) → length (bodies s) + f ≤ location_end s f
  fewer (stated o l a) f = fewer_within a f

  fewer_within : (a : Action) (f : ℕ) → length (bodies_inside a) + f ≤ within_end a f
  fewer_within (if_then t y) f = let h = fewer y (suc f) in omega arith
  fewer_within (if_else t y n) f =
      let h = fewer y (suc f) in let g = fewer n (suc (location_end y (suc f))) in let e = length-append (bodies y) (bodies n) in omega arith
  fewer_within (while_do t b) f = let h = fewer b (suc f) in omega arith
  fewer_within (block ss) f = fewer_head ss f
  fewer_within (select ss) f = fewer_among ss f
  fewer_within (cooperate ps) f = fewer_inside ps f
  fewer_within skip f = omega arith
  fewer_within _ f = omega arith

  fewer_head : (ss : Statements) (f : ℕ) → length (bodies_in ss) + f ≤ head_end ss f
  fewer_head no_statement f = omega arith
  fewer_head (statement s ss) f =
      let h = fewer s f in let g = fewer_along ss (location_end s f) in let e = length-append (bodies s) (bodies_in ss) in omega arith

  fewer_along : (ss : Statements) (f : ℕ) → length (bodies_in ss) + f ≤ along_end ss f
  fewer_along no_statement f = omega arith
  fewer_along (statement s ss) f =
      let h = fewer s (suc f) in let g = fewer_along ss (location_end s (suc f)) in let e = length-append (bodies s) (bodies_in ss) in omega arith

  fewer_among : (ss : Statements) (f : ℕ) → length (bodies_in ss) + f ≤ among_end ss f
  fewer_among no_statement f = omega arith
  fewer_among (statement s ss) f =
      let h = fewer s f in let g = fewer_among ss (location_end s f) in let e = length-append (bodies s) (bodies_in ss) in omega arith

  pub fewer_inside : (ps : Processes) (f : ℕ) → length (bodies_of ps) + f ≤ inside_end ps f
  fewer_inside no_process f = omega arith
  fewer_inside (beside (process ss end) ps) f =
      let h = fewer_along ss f in let g = fewer_inside ps (suc (along_end ss f)) in let e = length-append (bodies_in ss) (bodies_of ps) in omega arith
