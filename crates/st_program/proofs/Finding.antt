-- In a program whose statements are numbered in text order, the first statement with an occurrence is the one of that
-- place.
use Rattle.std.proofs.Common.{◌≡◌, ◌≢◌, ℕ, suc, ◌+◌, ◌-◌, ◌<◌, ◌≤◌, Bool, true, false, List, [], ◌∷◌, ◌++◌, drop, get_or, length, Option, Some, None, refl, sym, ap, ◌∙◌, inl, inr, arith}
use Rattle.std.specs.Prelude.{nat_eq, if◌then◌else◌, slice_get}
use Rattle.std.specs.Option.{option_map}
use Rattle.std.proofs.Math.Seq.{drop-cons}
use Rattle.std.proofs.Math.Numerals.{add-one}
use Rattle.std.proofs.lemmas.Bool.Decides.{eqb_tells}
use Rattle.st_program.specs.declared.trees.Child as GChild
use Rattle.st_program.specs.Tree.{Statement, stated, skip, if_then, if_else, while_do, block, select, cooperate, Action, Statements, no_statement, statement, process, Processes, no_process, beside, occurrence}
use Rattle.st_program.specs.Plain.{plain_stmts, plain_children}
use Rattle.st_program.specs.Spots.{entry, bodies, bodies_in, Spot, spots, spots_within, spots_along, spots_among, spots_inside, all_spots, spot, statement_at, IsNumbered}
use Rattle.st_program.specs.Search.{or_else, find_in, find_inside, find_along, find_among}
use Rattle.st_program.proofs.Rows.{child_is}

pub find_child : (cs : List GChild.Child) (i : ℕ) (c : GChild.Child) (n : ℕ) → i < length cs → c ≡ get_or cs i c
    → find_among (plain_children (drop i cs)) n ≡ or_else (find_along (plain_stmts (GChild.out-Child c).body.items) n) (find_among (plain_children (drop (i + 1) cs)) n)
find_child cs i c n le e =
    ap (λ z. find_among (plain_children z) n) (drop-cons cs i c le ∙ ap (λ z. z ∷ drop (suc i) cs) (sym e))
    ∙ ap (λ z. find_among (beside z (plain_children (drop (suc i) cs))) n) (child_is c)
    ∙ ap (λ j. or_else (find_along (plain_stmts (GChild.out-Child c).body.items) n) (find_among (plain_children (drop j cs)) n)) (sym (add-one i))

abbrev first_in : List Spot → ℕ → Option Statement
first_in [] n = None
first_in (x ∷ xs) n = if nat_eq (occurrence x.stmt) n then Some x.stmt else first_in xs n

else_if : (b : Bool) (s : Statement) (x y : Option Statement) → (if b then Some s else or_else x y) ≡ or_else (if b then Some s else x) y
else_if true s x y = refl
else_if false s x y = refl

first_append : (xs ys : List Spot) (n : ℕ) → first_in (xs ++ ys) n ≡ or_else (first_in xs n) (first_in ys n)
first_append [] ys n = refl
first_append (x ∷ xs) ys n =
    ap (λ z. if nat_eq (occurrence x.stmt) n then Some x.stmt else z) (first_append xs ys n)
    ∙ else_if (nat_eq (occurrence x.stmt) n) x.stmt (first_in xs n) (first_in ys n)

two : (xs ys : List Spot) (n : ℕ) (a b : Option Statement) → a ≡ first_in xs n → b ≡ first_in ys n → or_else a b ≡ first_in (xs ++ ys) n
two xs ys n a b e f = ap (λ z. or_else z b) e ∙ ap (or_else (first_in xs n)) f ∙ sym (first_append xs ys n)

mutual
  find_is : (s : Statement) (e c n : ℕ) → find_in s n ≡ first_in (spots s e c) n
  find_is (stated o l a) e c n = ap (λ z. if nat_eq o n then Some (stated o l a) else z) (inner_is a l e c n)

  inner_is : (a : Action) (l e c n : ℕ) → find_inside a n ≡ first_in (spots_within a l e c) n
  inner_is (if_then t y) l e c n = find_is y e c n
  inner_is (if_else t y r) l e c n =
      two (spots y e c) (spots r e (c + length (bodies y))) n _ _ (find_is y e c n) (find_is r e (c + length (bodies y)) n)
  inner_is (while_do t b) l e c n = find_is b l c n
  inner_is (block ss) l e c n = along_is ss e c n
  inner_is (select ss) l e c n = among_is ss e c n
  inner_is (cooperate ps) l e c n = inside_is ps c n
  inner_is skip l e c n = refl
  inner_is _ l e c n = refl

  along_is : (ss : Statements) (e c n : ℕ) → find_along ss n ≡ first_in (spots_along ss e c) n
  along_is no_statement e c n = refl
  along_is (statement s ss) e c n =
      two (spots s (entry ss e) c) (spots_along ss e (c + length (bodies s))) n _ _ (find_is s (entry ss e) c n) (along_is ss e (c + length (bodies s)) n)

  among_is : (ss : Statements) (e c n : ℕ) → find_along ss n ≡ first_in (spots_among ss e c) n
  among_is no_statement e c n = refl
  among_is (statement s ss) e c n =
      two (spots s e c) (spots_among ss e (c + length (bodies s))) n _ _ (find_is s e c n) (among_is ss e (c + length (bodies s)) n)

  inside_is : (ps : Processes) (c n : ℕ) → find_among ps n ≡ first_in (spots_inside ps c) n
  inside_is no_process c n = refl
  inside_is (beside (process ss end) ps) c n =
      two (spots_along ss end (suc c)) (spots_inside ps (suc c + length (bodies_in ss))) n _ _ (along_is ss end (suc c) n) (inside_is ps (suc c + length (bodies_in ss)) n)

abbrev stmt_of : Option Spot → Option Statement
stmt_of o = option_map (λ x. x.stmt) o

numbered_first : (xs : List Spot) (off n : ℕ) → ((k : ℕ) (x : Spot) → slice_get xs k ≡ Some x → occurrence x.stmt ≡ off + k) → off ≤ n
    → first_in xs n ≡ stmt_of (slice_get xs (n - off))
numbered_first [] off n h le = refl
numbered_first (x ∷ xs) off n h le =
    let first : occurrence x.stmt ≡ off = let q = h 0 x refl in omega arith in
    elim (eqb_tells (occurrence x.stmt) n) [
      | inl q ↦
          (let at : n - off ≡ 0 = let e : occurrence x.stmt ≡ n = q.1 in omega arith in
          ap (λ b. if b then Some x.stmt else first_in xs n) q.0 ∙ ap (λ k. stmt_of (slice_get (x ∷ xs) k)) (sym at))
      | inr q ↦
          (let differs : occurrence x.stmt ≢ n = q.1 in
          let at : n - off ≡ suc (n - suc off) = omega arith in
          ap (λ b. if b then Some x.stmt else first_in xs n) q.0
          ∙ numbered_first xs (suc off) n (λ k y e. let r = h (suc k) y e in omega arith) (omega arith)
          ∙ ap (λ k. stmt_of (slice_get (x ∷ xs) k)) (sym at))
    ]

pub find-statement : (p : Processes) (n : ℕ) → IsNumbered p → find_among p n ≡ statement_at p n
find-statement p n h =
    let at : n - 0 ≡ n = omega arith in
    inside_is p 0 n
    ∙ numbered_first (all_spots p) 0 n (λ k x e. let q = h k x e in omega arith) (omega arith)
    ∙ ap (λ k. stmt_of (spot p k)) at
