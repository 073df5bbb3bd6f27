-- Components along the text, in the code's lists.
use Rattle.std.proofs.Common.{◌≡◌, ℕ, suc, ◌+◌, ◌<◌, List, [], ◌∷◌, ◌++◌, length, drop, get_or, refl, ap, ◌∙◌, sym, length-append, Ok, Err, true, false, Bool}
use Rattle.std.specs.Prelude.{nat_eq, if◌then◌else◌}
use Rattle.std.proofs.lemmas.List.{drop_more}
use Rattle.st_program.specs.declared.trees.Stmt as GStmt
use Rattle.st_program.specs.declared.trees.Kind as GKind
use Rattle.st_program.specs.declared.trees.Child as GChild
use Rattle.std.proofs.Common.{Box, Global, Option, Some, zero}
use Rattle.st_form.specs.Plain.{plain}
use Rattle.st_form.specs.declared.formulas.Form.{Form}
use Rattle.st_program.specs.Tree.{if_else, statement, process, beside, occurrence, Statements}
use Rattle.st_program.specs.Plain.{plain_kind, plain_stmt, plain_stmts, plain_children}
use Rattle.st_program.specs.Spots.{Body, bodies, bodies_in, bodies_of, Spot, entry, spots, spots_along, spots_among, spots_inside}
use Rattle.st_program.proofs.Rows.{child_is}
use Rattle.spl_semantics.specs.Numbers.{begun_before, body_at}

pub next-child : (cs : List GChild.Child) (i : ℕ) (c : GChild.Child) → i < length cs → c ≡ get_or cs i c
    → plain_children (drop i cs) ≡ beside (process (plain_stmts (GChild.out-Child c).body.items) (GChild.out-Child c).end) (plain_children (drop (i + 1) cs))
next-child cs i c le e =
    ap plain_children (drop_more cs i c le)
    ∙ ap (λ z. plain_children (z ∷ drop (i + 1) cs)) (sym e)
    ∙ ap (λ z. beside z (plain_children (drop (i + 1) cs))) (child_is c)

pub child-count : (cs : List GChild.Child) (i : ℕ) (c : GChild.Child) (body : List GStmt.Stmt) → i < length cs → c ≡ get_or cs i c → body ≡ (GChild.out-Child c).body.items
    → length (bodies_of (plain_children (drop i cs))) ≡ suc (length (bodies_in (plain_stmts body)) + length (bodies_of (plain_children (drop (i + 1) cs))))
child-count cs i c body le e d =
    ap (λ p. length (bodies_of p)) (next-child cs i c le e)
    ∙ ap suc (length-append (bodies_in (plain_stmts (GChild.out-Child c).body.items)) _ ∙ ap (λ l. length (bodies_in (plain_stmts l)) + length (bodies_of (plain_children (drop (i + 1) cs)))) (sym d))

pub item-count : (xs : List GStmt.Stmt) (i : ℕ) (x : GStmt.Stmt) → i < length xs → x ≡ get_or xs i x
    → length (bodies_in (plain_stmts (drop i xs))) ≡ length (bodies (plain_stmt x)) + length (bodies_in (plain_stmts (drop (i + 1) xs)))
item-count xs i x le e =
    ap (λ l. length (bodies_in (plain_stmts l))) (drop_more xs i x le)
    ∙ ap (λ z. length (bodies (plain_stmt z) ++ bodies_in (plain_stmts (drop (i + 1) xs)))) (sym e)
    ∙ length-append (bodies (plain_stmt x)) (bodies_in (plain_stmts (drop (i + 1) xs)))

-- a search in a list that is followed by another
begun_by : (x : Spot) (xs ys : List Spot) (o mid all b : ℕ) (t : Bool) → (begun_before xs o mid ≡ Ok b → begun_before (xs ++ ys) o all ≡ Ok b)
    → (if t then Ok x.before else begun_before xs o mid) ≡ Ok b → (if t then Ok x.before else begun_before (xs ++ ys) o all) ≡ Ok b
begun_by x xs ys o mid all b true rest h = h
begun_by x xs ys o mid all b false rest h = rest h

pub begun-found : (xs ys : List Spot) (o mid all b : ℕ) → begun_before xs o mid ≡ Ok b → begun_before (xs ++ ys) o all ≡ Ok b
begun-found [] ys o mid all b h = cc
begun-found (x ∷ xs) ys o mid all b h = begun_by x xs ys o mid all b (nat_eq (occurrence x.stmt) o) (begun-found xs ys o mid all b) h

passed_by : (x : Spot) (xs ys : List Spot) (o mid all p : ℕ) (t : Bool) → (begun_before xs o mid ≡ Err p → (p ≡ mid) × (begun_before (xs ++ ys) o all ≡ begun_before ys o all))
    → (if t then Ok x.before else begun_before xs o mid) ≡ Err p → (p ≡ mid) × ((if t then Ok x.before else begun_before (xs ++ ys) o all) ≡ begun_before ys o all)
passed_by x xs ys o mid all p true rest h = cc
passed_by x xs ys o mid all p false rest h = rest h

pub begun-passed : (xs ys : List Spot) (o mid all p : ℕ) → begun_before xs o mid ≡ Err p → (p ≡ mid) × (begun_before (xs ++ ys) o all ≡ begun_before ys o all)
begun-passed [] ys o mid all p h = let e : mid ≡ p = cc in (sym e, refl)
begun-passed (x ∷ xs) ys o mid all p h = passed_by x xs ys o mid all p (nat_eq (occurrence x.stmt) o) (begun-passed xs ys o mid all p) h

pub body-found : (xs ys : List Body) (n : ℕ) (s : Statements) → body_at xs n ≡ Ok s → body_at (xs ++ ys) n ≡ Ok s
body-found [] ys n s h = cc
body-found (x ∷ xs) ys zero s h = h
body-found (x ∷ xs) ys (suc n) s h = body-found xs ys n s h

pub body-passed : (xs ys : List Body) (n m : ℕ) → body_at xs n ≡ Err m → body_at (xs ++ ys) n ≡ body_at ys m
body-passed [] ys n m h = let e : n ≡ m = cc in ap (body_at ys) e
body-passed (x ∷ xs) ys zero m h = cc
body-passed (x ∷ xs) ys (suc n) m h = body-passed xs ys n m h

-- a conditional with two branches
pub else-is : (k : GKind.Kind) (f : Form) (yes' other : Box GStmt.Stmt Global) (no' : Option (Box GStmt.Stmt Global)) (y o : GStmt.Stmt)
    → k ≡ GKind.If f yes' no' → no' ≡ Some other → y ≡ yes'.value → o ≡ other.value → plain_kind k ≡ if_else (plain f) (plain_stmt y) (plain_stmt o)
else-is k f yes' other no' y o e n q r =
    ap plain_kind (e ∙ ap (λ z. GKind.If f yes' z) n) ∙ ap (λ z. if_else (plain f) (plain_stmt z) (plain_stmt other.value)) (sym q) ∙ ap (λ z. if_else (plain f) (plain_stmt y) (plain_stmt z)) (sym r)

-- the next statement, and the next component
module _ (xs : List GStmt.Stmt) (i : ℕ) (x : GStmt.Stmt) (le : i < length xs) (e : x ≡ get_or xs i x) where
  pub next-item : plain_stmts (drop i xs) ≡ statement (plain_stmt x) (plain_stmts (drop (i + 1) xs))
  next-item = ap plain_stmts (drop_more xs i x le) ∙ ap (λ z. statement (plain_stmt z) (plain_stmts (drop (i + 1) xs))) (sym e)

  pub along-next : (next c : ℕ) → spots_along (plain_stmts (drop i xs)) next c ≡ spots (plain_stmt x) (entry (plain_stmts (drop (i + 1) xs)) next) c ++ spots_along (plain_stmts (drop (i + 1) xs)) next (c + length (bodies (plain_stmt x)))
  along-next next c = ap (λ l. spots_along l next c) next-item

  pub among-next : (next c : ℕ) → spots_among (plain_stmts (drop i xs)) next c ≡ spots (plain_stmt x) next c ++ spots_among (plain_stmts (drop (i + 1) xs)) next (c + length (bodies (plain_stmt x)))
  among-next next c = ap (λ l. spots_among l next c) next-item

  pub bodies-next : bodies_in (plain_stmts (drop i xs)) ≡ bodies (plain_stmt x) ++ bodies_in (plain_stmts (drop (i + 1) xs))
  bodies-next = ap bodies_in next-item

module _ (cs : List GChild.Child) (i : ℕ) (c : GChild.Child) (body : List GStmt.Stmt) (le : i < length cs) (e : c ≡ get_or cs i c) (d : body ≡ (GChild.out-Child c).body.items) where
  next-process : plain_children (drop i cs) ≡ beside (process (plain_stmts body) (GChild.out-Child c).end) (plain_children (drop (i + 1) cs))
  next-process = next-child cs i c le e ∙ ap (λ z. beside (process (plain_stmts z) (GChild.out-Child c).end) (plain_children (drop (i + 1) cs))) (sym d)

  pub inside-next : (b : ℕ) → spots_inside (plain_children (drop i cs)) b ≡ spots_along (plain_stmts body) (GChild.out-Child c).end (suc b) ++ spots_inside (plain_children (drop (i + 1) cs)) (suc b + length (bodies_in (plain_stmts body)))
  inside-next b = ap (λ p. spots_inside p b) next-process

  pub bodies-inside_next : bodies_of (plain_children (drop i cs)) ≡ (plain_stmts body, (GChild.out-Child c).end) ∷ (bodies_in (plain_stmts body) ++ bodies_of (plain_children (drop (i + 1) cs)))
  bodies-inside_next = ap bodies_of next-process
