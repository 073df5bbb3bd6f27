-- Statements by their numbers in the text: what stands in a statement has the numbers from the statement's own on.
use Rattle.std.proofs.Common.{◌≡◌, ℕ, suc, ◌+◌, ◌<◌, ◌≤◌, List, [], ◌∷◌, ◌++◌, length, Some, sym, ap, ◌∙◌, subst, arith}
use Rattle.st_program.specs.Tree.{Statement, stated, Action, skip, if_then, if_else, while_do, block, select, cooperate, Statements, no_statement, statement, process, Processes, no_process, beside, occurrence}
use Rattle.st_program.specs.Member.{Member, here, there}
use Rattle.st_program.specs.Spots.{entry, bodies, bodies_in, Spot, at_spot, spots, spots_within, spots_along, spots_among, spots_inside, all_spots, IsNumbered}
use Rattle.spl_semantics.proofs.Bodies.{HasAt, has_front, has_back, has_all}
use Rattle.spl_semantics.proofs.Members.{member_none, member_cases, at_member}
use Rattle.spl_semantics.proofs.Texts.{own_spots}
use Rattle.basic_laws.proofs.Types.{either}

-- no statement of the one part has the number of one of the other
abbrev pub Apart : List Spot → List Spot → Type 0
Apart xs ys = (y z : Spot) → Member y xs → Member z ys → occurrence y.stmt ≡ occurrence z.stmt → ⊥

-- what stands in a list from a place on stands in it
pub has_member : {X : Type 0} (xs : List X) (k : ℕ) (ys : List X) (y : X) → HasAt xs k ys → Member y ys → Member y xs
has_member xs k [] y h m = member_none m
has_member xs k (z ∷ ys) y h (here e) = at_member y xs k (h.0 ∙ ap Some (sym e))
has_member xs k (z ∷ ys) y h (there m) = has_member xs (suc k) ys y h.1 m

module _ (p : Processes) (numbered : IsNumbered p) where
  within : (k : ℕ) (ys : List Spot) (y : Spot) → HasAt (all_spots p) k ys → Member y ys → (k ≤ occurrence y.stmt) × (occurrence y.stmt < k + length ys)
  within k [] y h m = member_none m
  within k (z ∷ ys) y h (here e) =
      let n : occurrence y.stmt ≡ k = ap (λ x. occurrence x.stmt) e ∙ numbered k z h.0 in
      (omega (arith, n), omega (arith, n))
  within k (z ∷ ys) y h (there m) =
      let i = within (suc k) ys y h.1 m in
      (omega (arith, i.0), omega (arith, i.1))

  -- parts that stand one after the other
  pub parts_apart : (k : ℕ) (xs ys : List Spot) → HasAt (all_spots p) k (xs ++ ys) → Apart xs ys
  parts_apart k xs ys h y z m i e =
      let a = within k xs y (has_front (all_spots p) k xs ys h) m in
      let b = within (k + length xs) ys z (has_back (all_spots p) k xs ys h) i in
      absurd (omega (arith, a.1, b.0, e))

  module _ (x : Spot) where
    abbrev Own : Type 0
    Own = HasAt (all_spots p) (occurrence x.stmt) (own_spots x)

    own_at : (s : Statement) (n c k : ℕ) → HasAt (all_spots p) k (spots s n c) → x ≡ at_spot s n c → Own
    own_at (stated o l a) n c k h e =
        let first : k ≡ o = sym (numbered k (at_spot (stated o l a) n c) h.0) in
        subst (λ y. HasAt (all_spots p) (occurrence y.stmt) (own_spots y)) (sym e) (subst (λ j. HasAt (all_spots p) j (spots (stated o l a) n c)) first h)

    mutual
      own_in : (s : Statement) (n c k : ℕ) → HasAt (all_spots p) k (spots s n c) → Member x (spots s n c) → Own
      own_in (stated o l a) n c k h (here e) = own_at (stated o l a) n c k h e
      own_in (stated o l a) n c k h (there m) = own_within a l n c (suc k) h.1 m

      own_within : (a : Action) (l n c k : ℕ) → HasAt (all_spots p) k (spots_within a l n c) → Member x (spots_within a l n c) → Own
      own_within (if_then t s) l n c k h m = own_in s n c k h m
      own_within (if_else t s r) l n c k h m =
          let ys = spots r n (c + length (bodies s)) in
          either (member_cases (spots s n c) m) (own_in s n c k (has_front (all_spots p) k (spots s n c) ys h)) (own_in r n _ _ (has_back (all_spots p) k (spots s n c) ys h))
      own_within (while_do t s) l n c k h m = own_in s l c k h m
      own_within (block ss) l n c k h m = own_along ss n c k h m
      own_within (select ss) l n c k h m = own_among ss n c k h m
      own_within (cooperate ps) l n c k h m = own_inside ps c k h m
      own_within skip l n c k h m = member_none m
      own_within _ l n c k h m = member_none m

      own_along : (ss : Statements) (n c k : ℕ) → HasAt (all_spots p) k (spots_along ss n c) → Member x (spots_along ss n c) → Own
      own_along no_statement n c k h m = member_none m
      own_along (statement s ss) n c k h m =
          let xs = spots s (entry ss n) c in let ys = spots_along ss n (c + length (bodies s)) in
          either (member_cases xs m) (own_in s _ c k (has_front (all_spots p) k xs ys h)) (own_along ss n _ _ (has_back (all_spots p) k xs ys h))

      own_among : (ss : Statements) (n c k : ℕ) → HasAt (all_spots p) k (spots_among ss n c) → Member x (spots_among ss n c) → Own
      own_among no_statement n c k h m = member_none m
      own_among (statement s ss) n c k h m =
          let xs = spots s n c in let ys = spots_among ss n (c + length (bodies s)) in
          either (member_cases xs m) (own_in s n c k (has_front (all_spots p) k xs ys h)) (own_among ss n _ _ (has_back (all_spots p) k xs ys h))

      own_inside : (ps : Processes) (c k : ℕ) → HasAt (all_spots p) k (spots_inside ps c) → Member x (spots_inside ps c) → Own
      own_inside no_process c k h m = member_none m
      own_inside (beside (process ss end) ps) c k h m =
          let xs = spots_along ss end (suc c) in let ys = spots_inside ps (suc c + length (bodies_in ss)) in
          either (member_cases xs m) (own_along ss end _ k (has_front (all_spots p) k xs ys h)) (own_inside ps _ _ (has_back (all_spots p) k xs ys h))

  pub own_numbers : (x : Spot) → Member x (all_spots p) → HasAt (all_spots p) (occurrence x.stmt) (own_spots x)
  own_numbers x m = own_inside x p 0 0 (has_all [] (all_spots p)) m
