-- Expressions that tokens spell lie where these stand.
use Rattle.std.proofs.Common.{ℕ, zero, suc, ◌<◌, ◌≤◌, Bool, List, [], ◌∷◌, Option, arith}
use Rattle.st_tokens.specs.Stream.{Lexeme}
use Rattle.st_reading.specs.declared.mark.Mark.{Mark}
use Rattle.st_reading.specs.declared.mark.Mark.TheVariants as marks
use Rattle.st_reading.specs.declared.sign.Sign.{Sign}
use Rattle.st_reading.specs.Spelling.{Items, no_items, item_more, row2}
use Rattle.expression_parser.specs.declared.raw.Operator.{Operator}
use Rattle.expression_parser.specs.ExpressionTree.{Expr, Exprs, Kind, node, numeral, truth, name, at, negation, negative, all, any, pair, none, one_more, exprs, kind_of, start_of}
use Rattle.expression_parser.specs.Signs.{product_sign, sum_sign}
use Rattle.expression_parser.specs.Reading.{Level, formula, negated, signed, joined}
use Rattle.expression_parser.specs.Grammar.{IsAtom, a_numeral, a_truth, a_name, a_place, a_group, IsUnary, minus, plain, Behind, stop, go, IsGrouped, grouping, IsChained, alone, chained, IsProduct, IsSum, IsComparison, sum, compare, IsNegation, tilde, straight, IsConjunction, IsDisjunction, IsExpression, disjunction, implication, Inside, SpellsWithin}
use Rattle.expression_typer.specs.Placed.{IsPlaced, IsPlacedKind, ArePlaced}
use Rattle.expression_typer.specs.Told.{IsModestKind, AreModest}
use Rattle.typing_laws.proofs.Standing.{Stand, meet, stand_within}
use Rattle.typing_laws.proofs.Laying.{ExprLaid}
use Rattle.typing_laws.proofs.Numerals.{numeral_modest}
use Rattle.typing_laws.proofs.Rows.{Lays}

mutual
  placed_to : (e : Expr) (from a b : ℕ) → a ≤ b → IsPlaced e from a → IsPlaced e from b
  placed_to (node p k) from a b h i = (i.0, kind_to k p a b h i.1)

  kind_to : (k : Kind) (p a b : ℕ) → a ≤ b → IsPlacedKind k p a → IsPlacedKind k p b
  kind_to (numeral n) p a b h i = omega (arith, h, i)
  kind_to (truth t) p a b h i = omega (arith, h, i)
  kind_to (name n) p a b h i = (i.0, omega (arith, h, i.1))
  kind_to (at n) p a b h i = (i.0, omega (arith, h, i.1))
  kind_to (negation e) p a b h i = placed_to e (suc p) a b h i
  kind_to (negative q e) p a b h i = (i.0, placed_to e (suc q) a b h i.1)
  kind_to (all es) p a b h i = (omega (arith, h, i.0), placed_all_to es p a b h i.1)
  kind_to (any es) p a b h i = (omega (arith, h, i.0), placed_all_to es p a b h i.1)
  kind_to (pair o q l r) p a b h i = (i.0, placed_to r (suc q) a b h i.1)

  placed_all_to : (es : Exprs) (from a b : ℕ) → a ≤ b → ArePlaced es from a → ArePlaced es from b
  placed_all_to none from a b h i = omega (arith, h, i)
  placed_all_to (one_more e es) from a b h i = (i.0, i.1, placed_all_to es i.0 a b h i.2)

pub laid_to : (e : Expr) (from a b : ℕ) → a ≤ b → ExprLaid e from a → ExprLaid e from b
laid_to e from a b h l = record { placed = placed_to e from a b h l.placed; modest = l.modest }

-- the same from an earlier place
placed_from : (e : Expr) (a b to : ℕ) → a ≤ b → IsPlaced e b to → IsPlaced e a to
placed_from (node p k) a b to h i = (omega (arith, h, i.0), i.1)

all_from : (es : Exprs) (a b to : ℕ) → a ≤ b → ArePlaced es b to → ArePlaced es a to
all_from none a b to h i = omega (arith, h, i)
all_from (one_more e es) a b to h i = (i.0, placed_from e a b i.0 h i.1, i.2)

kind_from : (k : Kind) (p q to : ℕ) → p ≤ q → IsPlacedKind k q to → IsPlacedKind k p to
kind_from (numeral n) p q to h i = omega (arith, h, i)
kind_from (truth t) p q to h i = omega (arith, h, i)
kind_from (name n) p q to h i = (omega (arith, h, i.0), i.1)
kind_from (at n) p q to h i = (omega (arith, h, i.0), i.1)
kind_from (negation e) p q to h i = placed_from e (suc p) (suc q) to (omega (arith, h)) i
kind_from (negative r e) p q to h i = (omega (arith, h, i.0), i.1)
kind_from (all es) p q to h i = (omega (arith, h, i.0), all_from es p q to h i.1)
kind_from (any es) p q to h i = (omega (arith, h, i.0), all_from es p q to h i.1)
kind_from (pair o r x y) p q to h i = (placed_from x p q r h i.0, i.1)

pub laid_from : (e : Expr) (a b to : ℕ) → a ≤ b → ExprLaid e b to → ExprLaid e a to
laid_from e a b to h l = record { placed = placed_from e a b to h l.placed; modest = l.modest }

-- an expression is laid from its first token on
from_start : (e : Expr) (from to : ℕ) → ExprLaid e from to → ExprLaid e (start_of e) to
from_start (node p k) from to l = record { placed = (omega arith, l.placed.1); modest = l.modest }

pub start_behind : (e : Expr) (from to : ℕ) → ExprLaid e from to → from ≤ start_of e
start_behind (node p k) from to l = l.placed.0

mutual
  placed_ahead : (e : Expr) (from to : ℕ) → IsPlaced e from to → from < to
  placed_ahead (node p k) from to h = let a = kind_ahead k p to h.1 in omega (arith, h.0, a)

  kind_ahead : (k : Kind) (p to : ℕ) → IsPlacedKind k p to → p < to
  kind_ahead (numeral n) p to h = h
  kind_ahead (truth t) p to h = h
  kind_ahead (name n) p to h = omega (arith, h.0, h.1)
  kind_ahead (at n) p to h = omega (arith, h.0, h.1)
  kind_ahead (negation e) p to h = let a = placed_ahead e (suc p) to h in omega (arith, a)
  kind_ahead (negative q e) p to h = let a = placed_ahead e (suc q) to h.1 in omega (arith, a, h.0)
  kind_ahead (all es) p to h = h.0
  kind_ahead (any es) p to h = h.0
  kind_ahead (pair o q l r) p to h = let a = placed_ahead l p q h.0 in let b = placed_ahead r (suc q) to h.1 in omega (arith, a, b)

pub laid_ahead : (e : Expr) (from to : ℕ) → ExprLaid e from to → from < to
laid_ahead e from to l = placed_ahead e from to l.placed

pub start_ahead : (e : Expr) (from to : ℕ) → ExprLaid e from to → start_of e < to
start_ahead (node p k) from to l = kind_ahead k p to l.placed.1

regrouped : (x : Expr) (p from to : ℕ) → p < from → ExprLaid x from to → ExprLaid (node p (kind_of x)) p to
regrouped (node q k) p from to h l = record { placed = (omega arith, kind_from k p q to (omega (arith, h, l.placed.0)) l.placed.1); modest = l.modest }

join_laid : (o : Operator) (q : ℕ) (x y : Expr) (from to : ℕ) → ExprLaid x from q → ExprLaid y (suc q) to → ExprLaid (joined o q x y) from to
join_laid o q x y from to l r =
    let s = from_start x from q l in
    record { placed = (start_behind x from q l, (s.placed, r.placed)); modest = (l.modest, r.modest) }

-- what is known of a language of expressions
abbrev pub Lay : (List Lexeme → Expr → Type 0) → Type 0
Lay L = Lays L ExprLaid

module _ (op : Sign → Option Operator) (L : List Lexeme → Expr → Type 0) (lays : Lay L) where
  behind_lays : (x : Expr) (ts : List Lexeme) (z : Expr) (from mid to : ℕ) → ExprLaid x from mid → Stand mid to ts → Behind op L x ts z → ExprLaid z from to
  behind_lays x ts z from mid to l h (stop y) = laid_to x from mid to h l
  behind_lays x ts z from mid to l h (go y t o a b w v e i k) =
      let m = meet (suc t.start) to a b h.2 in
      behind_lays (joined o t.start x w) b z from m.mid to (join_laid o t.start x w from m.mid (laid_to x from mid t.start h.0 l) (lays a w (suc t.start) m.mid m.first i)) m.second k

  grouped_lays : Lay (IsGrouped op L)
  grouped_lays ts z from to h (grouping a b x y i k) =
      let m = meet from to a b h in
      behind_lays x b z from m.mid to (lays a x from m.mid m.first i) m.second k

-- parts of a chain
record ExprsLaid (es : List Expr) (from to : ℕ) : Type 0 where
  placed : ArePlaced (exprs es) from to
  modest : AreModest (exprs es)

module _ (mark : Mark) (L : List Lexeme → Expr → Type 0) (lays : Lay L) where
  items_laid : (ts : List Lexeme) (xs : List Expr) (from to : ℕ) → Stand from to ts → Items mark L ts xs → ExprsLaid xs from to
  items_laid ts xs from to h no_items = record { placed = h; modest = tt }
  items_laid ts xs from to h (item_more t a b y ys e i k) =
      let m = meet (suc t.start) to a b h.2 in
      let l = lays a y (suc t.start) m.mid m.first i in
      let r = items_laid b ys m.mid to m.second k in
      record { placed = (m.mid, placed_from y from (suc t.start) m.mid (omega (arith, h.0)) l.placed, r.placed); modest = (l.modest, r.modest) }

  -- an expression that begins with the first part, and that lies as its parts do
  module _ (wrap : Exprs → Kind) (placed : (es : Exprs) (p to : ℕ) → p < to → ArePlaced es p to → IsPlacedKind (wrap es) p to) (modest : (es : Exprs) → AreModest es → IsModestKind (wrap es)) where
    chained_lays : Lay (IsChained wrap mark L)
    chained_lays ts z from to h (alone a x i) = lays ts z from to h i
    chained_lays ts z from to h (chained a x y ys (row2 b c u v w i k)) =
        let m = meet from to b c h in
        let l = lays b x from m.mid m.first i in
        let s = from_start x from m.mid l in
        let r = items_laid c (y ∷ ys) m.mid to m.second k in
        record {
          placed = (start_behind x from m.mid l, placed (exprs (x ∷ y ∷ ys)) (start_of x) to (let a = laid_ahead x (start_of x) m.mid s in let w = stand_within m.mid to c m.second in omega (arith, a, w)) (m.mid, s.placed, r.placed));
          modest = modest (exprs (x ∷ y ∷ ys)) (l.modest, r.modest);
        }

module _ (places : Bool) (down : Level → List Lexeme → Expr → Type 0) (low : (level : Level) → Lay (down level)) where
  atom_lays : Lay (IsAtom places down)
  atom_lays ts x from to h (a_numeral t n f) = record { placed = (h.0, h.2); modest = numeral_modest places n t f }
  atom_lays ts x from to h (a_truth t b f) = record { placed = (h.0, h.2); modest = tt }
  atom_lays ts x from to h (a_name t f) = record { placed = (h.0, (omega arith, h.2)); modest = tt }
  atom_lays ts x from to h (a_place t u f n) = record { placed = (h.0, (omega (arith, h.2.0), h.2.2)); modest = tt }
  atom_lays ts x from to h (a_group t u inner y f d e) =
      let m = meet (suc t.start) to inner (u ∷ []) h.2 in
      let l = low formula inner y (suc t.start) m.mid m.first d in
      let r = regrouped y t.start (suc t.start) m.mid (omega arith) l in
      laid_from (node t.start (kind_of y)) from t.start to h.0 (laid_to (node t.start (kind_of y)) t.start m.mid to (stand_within m.mid to (u ∷ []) m.second) r)

  unary_lays : Lay (IsUnary places down)
  unary_lays ts x from to h (minus t a y f d) =
      let l = low signed a y (suc t.start) to h.2 d in
      record { placed = (h.0, (omega arith, l.placed)); modest = l.modest }
  unary_lays ts x from to h (plain a y i) = atom_lays ts x from to h i

  product_lays : Lay (IsProduct places down)
  product_lays = grouped_lays product_sign (IsUnary places down) unary_lays

  pub sum_lays : Lay (IsSum places down)
  sum_lays = grouped_lays sum_sign (IsProduct places down) product_lays

  comparison_lays : Lay (IsComparison places down)
  comparison_lays ts x from to h (sum a y i) = sum_lays ts x from to h i
  comparison_lays ts x from to h (compare a b t o y z i e k) =
      let m = meet from to a (t ∷ b) h in
      join_laid o t.start y z from to (laid_to y from m.mid t.start m.second.0 (sum_lays a y from m.mid m.first i)) (sum_lays b z (suc t.start) to m.second.2 k)

  negation_lays : Lay (IsNegation places down)
  negation_lays ts x from to h (tilde t a y f d) =
      let l = low negated a y (suc t.start) to h.2 d in
      record { placed = (h.0, l.placed); modest = l.modest }
  negation_lays ts x from to h (straight a y i) = comparison_lays ts x from to h i

  conjunction_lays : Lay (IsConjunction places down)
  conjunction_lays = chained_lays marks.And (IsNegation places down) negation_lays all (λ es p to a b. (a, b)) (λ es a. a)

  disjunction_lays : Lay (IsDisjunction places down)
  disjunction_lays = chained_lays marks.Or (IsConjunction places down) conjunction_lays any (λ es p to a b. (a, b)) (λ es a. a)

  expression_lays : Lay (IsExpression places down)
  expression_lays ts x from to h (disjunction a y i) = disjunction_lays ts x from to h i
  expression_lays ts x from to h (implication a b t y z i e d) =
      let m = meet from to a (t ∷ b) h in
      join_laid _ t.start y z from to (laid_to y from m.mid t.start m.second.0 (disjunction_lays a y from m.mid m.first i)) (low formula b z (suc t.start) to m.second.2 d)

inside_lays : (places : Bool) (n : ℕ) (level : Level) → Lay (Inside places n level)
inside_lays places zero level ts x from to h i = absurd i
inside_lays places (suc n) formula ts x from to h i = expression_lays places (Inside places n) (inside_lays places n) ts x from to h i
inside_lays places (suc n) negated ts x from to h i = negation_lays places (Inside places n) (inside_lays places n) ts x from to h i
inside_lays places (suc n) signed ts x from to h i = unary_lays places (Inside places n) (inside_lays places n) ts x from to h i

pub formula_lays : (places : Bool) (n : ℕ) → Lay (SpellsWithin places n)
formula_lays places n = expression_lays places (Inside places n) (inside_lays places n)
