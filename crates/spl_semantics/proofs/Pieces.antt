-- Statements inside groups, in the code's lists.
use Rattle.std.proofs.Common.{◌≡◌, ℕ, zero, suc, ◌+◌, ◌*◌, ◌-◌, ◌^◌, ◌<◌, ◌≤◌, Bool, true, false, List, length, min, drop, get_or, Result, Vec, Global, refl, ap, ◌∙◌, sym, subst, arith}
use Rattle.std.specs.Prelude.{if◌then◌else◌}
use Rattle.std.specs.Option.{option_map}
use Rattle.std.proofs.lemmas.List.{drop_more}
use Rattle.st_form.specs.Formula.{Formula}
use Rattle.st_form.specs.Plain.{plain}
use Rattle.st_form.specs.declared.formulas.Form.{Form}
use Rattle.st_program.specs.declared.trees.Inner as GInner
use Rattle.st_program.specs.declared.trees.Inner.TheBlock as TB
use Rattle.st_program.specs.Tree.{Pieces, piece_if, piece}
use Rattle.st_program.specs.Groups.{paths_along}
use Rattle.st_program.specs.Plain.{plain_inner, plain_inners, plain_pieces}
use Rattle.spl_semantics.specs.declared.faults.MoveFault.{MoveFault}
use Rattle.spl_semantics.specs.Answers.{Answers}
use Rattle.spl_semantics.specs.Limits.{wide_formula}
use Rattle.spl_semantics.specs.Stores.{Store, holds}
use Rattle.spl_semantics.specs.Walks.{walk, walk_along, wide_walk, wide_walk_along}
use Rattle.spl_semantics.proofs.Exits.{or_none}
use Rattle.spl_semantics.proofs.Walking.{factor, product-above}

row_items : {n : _} (row : GInner.Row_of-Inner n) → plain_inners row ≡ plain_pieces (GInner.items-the_row-Inner n row)
row_items GInner.end_of-Inner = refl
row_items (GInner.more_of-Inner x rest) = ap (piece (plain_inner x)) (row_items rest)

hidden_row : (v : Vec GInner.Inner Global) → plain_inners (TB.hidden-the_row-Inner-0 v) ≡ plain_pieces v.items
hidden_row v = row_items (TB.hidden-the_row-Inner-0 v) ∙ ap plain_pieces (GInner.items_hidden-the_row-Inner-0 v)

pub if-is : (x : GInner.Inner) (f : Form) (v w : Vec GInner.Inner Global) (ys ns : List GInner.Inner) → x ≡ GInner.If f v w → ys ≡ v.items → ns ≡ w.items
    → plain_inner x ≡ piece_if (plain f) (plain_pieces ys) (plain_pieces ns)
if-is x f v w ys ns e d k =
    ap plain_inner e
    ∙ ap (λ l. piece_if (plain f) l (plain_inners (TB.hidden-the_row-Inner-0 w))) (hidden_row v ∙ ap plain_pieces (sym d))
    ∙ ap (piece_if (plain f) (plain_pieces ys)) (hidden_row w ∙ ap plain_pieces (sym k))

pub next-piece : (xs : List GInner.Inner) (i : ℕ) (x : GInner.Inner) → i < length xs → x ≡ get_or xs i x → plain_pieces (drop i xs) ≡ piece (plain_inner x) (plain_pieces (drop (i + 1) xs))
next-piece xs i x le e = ap plain_pieces (drop_more xs i x le) ∙ ap (λ z. piece (plain_inner z) (plain_pieces (drop (i + 1) xs))) (sym e)

right_factor : (a b : ℕ) → 0 < a → a * b ≤ 64 → b ≤ 64
right_factor zero b h k = absurd (omega arith)
right_factor (suc a) b h k = omega arith

pub ways-step : (count w rest total ways result : ℕ) → 0 < count → 0 < w → 0 < rest → total ≤ 64 → count * (w * rest) ≡ total → (w ≤ 64 → ways ≡ w) → (ways ≡ w → result ≡ min (count * w) (2 ^ 32 - 1))
    → (0 < result) × (result * rest ≡ total)
ways-step count w rest total ways result a b d le e k m =
    let f : count * w ≤ 64 = factor count w rest d (omega (arith, e)) in
    let g = right_factor count w a f in
    let n = m (k g) in
    let q : result ≡ count * w = omega (arith, n, f) in
    let p = product-above count w a b in
    (omega (arith, q, p), ap (λ z. z * rest) q ∙ assoc count w rest ∙ e)
  where
    assoc : (a b c : ℕ) → a * b * c ≡ a * (b * c)
    assoc a b c = omega arith

pub same-answer : {A B : Type 0} (view : A → B) (r : Result A MoveFault) (w w' : Bool) (v v' : B) → w ≡ w' → v ≡ v' → Answers view r w v → Answers view r w' v'
same-answer view r w w' v v' e f h = subst (λ z. Answers view r z v') e (subst (λ z. Answers view r w z) f h)

-- a conditional by its test
module _ (t : Formula) (y n : Pieces) (s : Store) (narrow : wide_formula t s ≡ false) where
  pub if-taken : holds t s ≡ true → (wide_walk (piece_if t y n) s ≡ wide_walk_along y s) × (walk (piece_if t y n) s ≡ walk_along y s)
  if-taken h = (
    or_none _ _ narrow ∙ ap (λ b. if b then wide_walk_along y s else wide_walk_along n s) h,
    ap (λ b. if b then walk_along y s else option_map (λ w. (length (paths_along y) + w.0, w.1)) (walk_along n s)) h,
  )

  pub if-other : holds t s ≡ false → (wide_walk (piece_if t y n) s ≡ wide_walk_along n s) × (walk (piece_if t y n) s ≡ option_map (λ w. (length (paths_along y) + w.0, w.1)) (walk_along n s))
  if-other h = (
    or_none _ _ narrow ∙ ap (λ b. if b then wide_walk_along y s else wide_walk_along n s) h,
    ap (λ b. if b then walk_along y s else option_map (λ w. (length (paths_along y) + w.0, w.1)) (walk_along n s)) h,
  )
