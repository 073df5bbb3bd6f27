-- A body has at most as many statements as the program has.
use Rattle.std.proofs.Common.{◌≡◌, ℕ, suc, ◌+◌, ◌-◌, ◌<◌, ◌≤◌, Bool, true, false, List, [], ◌∷◌, length, length-append, Option, Some, None, refl, ap, sym, subst, arith}
use Rattle.std.specs.Prelude.{nat_lt, if◌then◌else◌, slice_get, IfSome}
use Rattle.std.specs.Option.{option_map}
use Rattle.std.specs.Borrow.{Bor}
use Rattle.st_program.specs.declared.trees.Stmt as GStmt
use Rattle.st_program.specs.Member.{Member, here, there}
use Rattle.st_program.specs.Tree.{Statement, stated, Action, skip, if_then, if_else, while_do, block, select, cooperate, Statements, no_statement, statement, process, Processes, no_process, beside}
use Rattle.st_program.specs.Plain.{plain_stmts}
use Rattle.st_program.specs.Spots.{entry, Body, bodies, bodies_inside, bodies_in, bodies_of, Spot, spots, spots_within, spots_along, spots_among, spots_inside, all_spots, spot, block_items, items_of, body}
use Rattle.spl_semantics.proofs.Members.{member_none, member_cases, at_member}
use Rattle.basic_laws.proofs.Types.{either}

abbrev count : Statements → ℕ
count no_statement = 0
count (statement s ss) = suc (count ss)

pub count-is : (xs : List GStmt.Stmt) → count (plain_stmts xs) ≡ length xs
count-is [] = refl
count-is (x ∷ xs) = ap suc (count-is xs)

some_spot : (s : Statement) (n c : ℕ) → 0 < length (spots s n c)
some_spot (stated o l a) n c = omega arith

count_along : (ss : Statements) (n c : ℕ) → count ss ≤ length (spots_along ss n c)
count_along no_statement n c = omega arith
count_along (statement s ss) n c = omega (arith, some_spot s (entry ss n) c, count_along ss n (c + length (bodies s)), length-append (spots s (entry ss n) c) (spots_along ss n (c + length (bodies s))))

abbrev Short : Option Body → ℕ → Type 0
Short None k = Unit {0}
Short (Some b) k = count b.0 ≤ k

more : (o : Option Body) (j k : ℕ) → j ≤ k → Short o j → Short o k
more None j k le h = tt
more (Some b) j k le h = omega (arith, le, h)

own-short : (a : Action) (l n c e : ℕ) → Short (block_items a e) (length (spots_within a l n c))
own-short (block ss) l n c e = count_along ss n c
own-short skip l n c e = tt
own-short _ l n c e = tt

-- blocks
module _ (x : Spot) where
  abbrev Fits_in : ℕ → Type 0
  Fits_in k = Short (items_of (Some x)) k

  left : (j k m : ℕ) → m ≡ j + k → Fits_in j → Fits_in m
  left j k m e h = more (items_of (Some x)) j m (omega (arith, e)) h

  right : (j k m : ℕ) → m ≡ j + k → Fits_in k → Fits_in m
  right j k m e h = more (items_of (Some x)) k m (omega (arith, e)) h

  mutual
    block-short : (s : Statement) (n c : ℕ) → Member x (spots s n c) → Fits_in (length (spots s n c))
    block-short (stated o l a) n c (here e) =
        subst (λ y. Short (items_of (Some y)) (suc (length (spots_within a l n c)))) (sym e) (more (block_items a n) _ _ (omega arith) (own-short a l n c n))
    block-short (stated o l a) n c (there m) = more (items_of (Some x)) _ _ (omega arith) (block-within a l n c m)

    block-within : (a : Action) (l n c : ℕ) → Member x (spots_within a l n c) → Fits_in (length (spots_within a l n c))
    block-within (if_then t s) l n c m = block-short s n c m
    block-within (if_else t s r) l n c m =
        let k = length-append (spots s n c) (spots r n (c + length (bodies s))) in
        either (member_cases (spots s n c) m) (λ m. left _ _ _ k (block-short s n c m)) (λ m. right _ _ _ k (block-short r n (c + length (bodies s)) m))
    block-within (while_do t s) l n c m = block-short s l c m
    block-within (block ss) l n c m = block-along ss n c m
    block-within (select ss) l n c m = block-among ss n c m
    block-within (cooperate ps) l n c m = block-inside ps c m
    block-within skip l n c m = member_none m
    block-within _ l n c m = member_none m

    block-along : (ss : Statements) (n c : ℕ) → Member x (spots_along ss n c) → Fits_in (length (spots_along ss n c))
    block-along no_statement n c m = member_none m
    block-along (statement s ss) n c m =
        let k = length-append (spots s (entry ss n) c) (spots_along ss n (c + length (bodies s))) in
        either (member_cases (spots s (entry ss n) c) m) (λ m. left _ _ _ k (block-short s (entry ss n) c m)) (λ m. right _ _ _ k (block-along ss n (c + length (bodies s)) m))

    block-among : (ss : Statements) (n c : ℕ) → Member x (spots_among ss n c) → Fits_in (length (spots_among ss n c))
    block-among no_statement n c m = member_none m
    block-among (statement s ss) n c m =
        let k = length-append (spots s n c) (spots_among ss n (c + length (bodies s))) in
        either (member_cases (spots s n c) m) (λ m. left _ _ _ k (block-short s n c m)) (λ m. right _ _ _ k (block-among ss n (c + length (bodies s)) m))

    block-inside : (ps : Processes) (c : ℕ) → Member x (spots_inside ps c) → Fits_in (length (spots_inside ps c))
    block-inside no_process c m = member_none m
    block-inside (beside (process ss end) ps) c m =
        let k = length-append (spots_along ss end (suc c)) (spots_inside ps (suc c + length (bodies_in ss))) in
        either (member_cases (spots_along ss end (suc c)) m) (λ m. left _ _ _ k (block-along ss end (suc c) m)) (λ m. right _ _ _ k (block-inside ps (suc c + length (bodies_in ss)) m))

-- components
module _ (b : Body) where
  mutual
    body-short : (s : Statement) (n c : ℕ) → Member b (bodies s) → count b.0 ≤ length (spots s n c)
    body-short (stated o l a) n c m = omega (arith, body-within a l n c m)

    body-within : (a : Action) (l n c : ℕ) → Member b (bodies_inside a) → count b.0 ≤ length (spots_within a l n c)
    body-within (if_then t s) l n c m = body-short s n c m
    body-within (if_else t s r) l n c m =
        let k = length-append (spots s n c) (spots r n (c + length (bodies s))) in
        either (member_cases (bodies s) m) (λ m. omega (arith, k, body-short s n c m)) (λ m. omega (arith, k, body-short r n (c + length (bodies s)) m))
    body-within (while_do t s) l n c m = body-short s l c m
    body-within (block ss) l n c m = body-along ss n c m
    body-within (select ss) l n c m = body-among ss n c m
    body-within (cooperate ps) l n c m = body-inside ps c m
    body-within skip l n c m = member_none m
    body-within _ l n c m = member_none m

    body-along : (ss : Statements) (n c : ℕ) → Member b (bodies_in ss) → count b.0 ≤ length (spots_along ss n c)
    body-along no_statement n c m = member_none m
    body-along (statement s ss) n c m =
        let k = length-append (spots s (entry ss n) c) (spots_along ss n (c + length (bodies s))) in
        either (member_cases (bodies s) m) (λ m. omega (arith, k, body-short s (entry ss n) c m)) (λ m. omega (arith, k, body-along ss n (c + length (bodies s)) m))

    body-among : (ss : Statements) (n c : ℕ) → Member b (bodies_in ss) → count b.0 ≤ length (spots_among ss n c)
    body-among no_statement n c m = member_none m
    body-among (statement s ss) n c m =
        let k = length-append (spots s n c) (spots_among ss n (c + length (bodies s))) in
        either (member_cases (bodies s) m) (λ m. omega (arith, k, body-short s n c m)) (λ m. omega (arith, k, body-among ss n (c + length (bodies s)) m))

    body-inside : (ps : Processes) (c : ℕ) → Member b (bodies_of ps) → count b.0 ≤ length (spots_inside ps c)
    body-inside no_process c m = member_none m
    body-inside (beside (process ss end) ps) c (here e) =
        let k = length-append (spots_along ss end (suc c)) (spots_inside ps (suc c + length (bodies_in ss))) in
        omega (arith, k, ap (λ x. count x.0) e, count_along ss end (suc c))
    body-inside (beside (process ss end) ps) c (there m) =
        let k = length-append (spots_along ss end (suc c)) (spots_inside ps (suc c + length (bodies_in ss))) in
        either (member_cases (bodies_in ss) m) (λ m. omega (arith, k, body-along ss end (suc c) m)) (λ m. omega (arith, k, body-inside ps (suc c + length (bodies_in ss)) m))

module _ (p : Processes) where
  of_spot : (b : ℕ) (o : Option Spot) → spot p b ≡ o → Short (items_of o) (length (all_spots p))
  of_spot b None e = tt
  of_spot b (Some x) e = block-inside x p 0 (at_member x (all_spots p) b e)

  of_body : (k : ℕ) (o : Option Body) → slice_get (bodies_of p) k ≡ o → Short o (length (all_spots p))
  of_body k None e = tt
  of_body k (Some x) e = body-inside x p 0 (at_member x (bodies_of p) k e)

  of_number : (b : ℕ) (t : Bool) → Short (if t then items_of (spot p b) else slice_get (bodies_of p) (b - length (all_spots p))) (length (all_spots p))
  of_number b true = of_spot b (spot p b) refl
  of_number b false = of_body (b - length (all_spots p)) (slice_get (bodies_of p) (b - length (all_spots p))) refl

  -- what a number of a body names
  pub named-short : (b : ℕ) (xs : List GStmt.Stmt) → Some (plain_stmts xs) ≡ option_map (λ x. x.0) (body p b) → length xs ≤ length (all_spots p)
  named-short b xs e = of_option (body p b) (of_number b (nat_lt b (length (all_spots p)))) e
    where
      of_option : (o : Option Body) → Short o (length (all_spots p)) → Some (plain_stmts xs) ≡ option_map (λ x. x.0) o → length xs ≤ length (all_spots p)
      of_option None h e = cc
      of_option (Some y) h e = let q : plain_stmts xs ≡ y.0 = cc in omega (arith, h, ap count q, count-is xs)

  pub short-of : (b n : ℕ) (r : Option (Bor (List GStmt.Stmt))) → option_map (λ s. plain_stmts s.now) r ≡ option_map (λ x. x.0) (body p b) → length (all_spots p) ≤ n → IfSome r (λ s. length s.now ≤ n)
  short-of b n None e h = tt
  short-of b n (Some s) e h = omega (arith, h, named-short b s.now e)
