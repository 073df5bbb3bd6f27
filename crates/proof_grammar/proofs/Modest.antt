-- Expressions that tokens spell have numerals that a text may have.
use Rattle.std.proofs.Common.{ℕ, zero, suc, Bool, List, ◌∷◌, Option}
use Rattle.st_tokens.specs.Stream.{Lexeme}
use Rattle.st_reading.specs.declared.mark.Mark.{Mark}
use Rattle.st_reading.specs.declared.mark.Mark.TheVariants as marks
use Rattle.st_reading.specs.declared.sign.Sign.{Sign}
use Rattle.st_reading.specs.Spelling.{Items, no_items, item_more, row2}
use Rattle.expression_parser.specs.declared.raw.Operator.{Operator}
use Rattle.expression_parser.specs.ExpressionTree.{Expr, Exprs, Kind, node, all, any, exprs, kind_of, joined}
use Rattle.expression_parser.specs.Signs.{product_sign, sum_sign}
use Rattle.expression_parser.specs.Reading.{Level, formula, negated, signed}
use Rattle.expression_parser.specs.Grammar.{IsAtom, a_numeral, a_truth, a_name, a_place, a_group, IsUnary, minus, plain, Behind, stop, go, IsGrouped, grouping, IsChained, alone, chained, IsProduct, IsSum, IsComparison, sum, compare, IsNegation, tilde, straight, IsConjunction, IsDisjunction, IsExpression, disjunction, implication, Inside, SpellsWithin}
use Rattle.expression_typer.specs.Told.{IsModest, IsModestKind, AreModest}
use Rattle.typing_laws.proofs.Numerals.{numeral_modest}

abbrev pub Modest : (List Lexeme → Expr → Type 0) → Type 0
Modest L = (ts : List Lexeme) (x : Expr) → L ts x → IsModest x

kind_modest : (x : Expr) → IsModest x → IsModestKind (kind_of x)
kind_modest (node p k) h = h

module _ (op : Sign → Option Operator) (L : List Lexeme → Expr → Type 0) (each : Modest L) where
  behind_modest : (x : Expr) (ts : List Lexeme) (z : Expr) → IsModest x → Behind op L x ts z → IsModest z
  behind_modest x ts z h (stop y) = h
  behind_modest x ts z h (go y t o a b w v e i k) = behind_modest (joined o t.start x w) b z (h, each a w i) k

  grouped_modest : Modest (IsGrouped op L)
  grouped_modest ts z (grouping a b x y i k) = behind_modest x b z (each a x i) k

module _ (mark : Mark) (L : List Lexeme → Expr → Type 0) (each : Modest L) where
  items_modest : (ts : List Lexeme) (xs : List Expr) → Items mark L ts xs → AreModest (exprs xs)
  items_modest ts xs no_items = tt
  items_modest ts xs (item_more t a b y ys e i k) = (each a y i, items_modest b ys k)

  module _ (wrap : Exprs → Kind) (whole : (es : Exprs) → AreModest es → IsModestKind (wrap es)) where
    chained_modest : Modest (IsChained wrap mark L)
    chained_modest ts z (alone a x i) = each ts z i
    chained_modest ts z (chained a x y ys (row2 b c u v w i k)) = whole (exprs (x ∷ y ∷ ys)) (each b x i, items_modest c (y ∷ ys) k)

module _ (places : Bool) (down : Level → List Lexeme → Expr → Type 0) (low : (level : Level) → Modest (down level)) where
  atom_modest : Modest (IsAtom places down)
  atom_modest ts x (a_numeral t n f) = numeral_modest places n t f
  atom_modest ts x (a_truth t b f) = tt
  atom_modest ts x (a_name t f) = tt
  atom_modest ts x (a_place t u f n) = tt
  atom_modest ts x (a_group t u inner y f d e) = kind_modest y (low formula inner y d)

  unary_modest : Modest (IsUnary places down)
  unary_modest ts x (minus t a y f d) = low signed a y d
  unary_modest ts x (plain a y i) = atom_modest ts x i

  product_modest : Modest (IsProduct places down)
  product_modest = grouped_modest product_sign (IsUnary places down) unary_modest

  sum_modest : Modest (IsSum places down)
  sum_modest = grouped_modest sum_sign (IsProduct places down) product_modest

  comparison_modest : Modest (IsComparison places down)
  comparison_modest ts x (sum a y i) = sum_modest ts x i
  comparison_modest ts x (compare a b t o y z i e k) = (sum_modest a y i, sum_modest b z k)

  negation_modest : Modest (IsNegation places down)
  negation_modest ts x (tilde t a y f d) = low negated a y d
  negation_modest ts x (straight a y i) = comparison_modest ts x i

  conjunction_modest : Modest (IsConjunction places down)
  conjunction_modest = chained_modest marks.And (IsNegation places down) negation_modest all (λ es a. a)

  disjunction_modest : Modest (IsDisjunction places down)
  disjunction_modest = chained_modest marks.Or (IsConjunction places down) conjunction_modest any (λ es a. a)

  expression_modest : Modest (IsExpression places down)
  expression_modest ts x (disjunction a y i) = disjunction_modest ts x i
  expression_modest ts x (implication a b t y z i e d) = (disjunction_modest a y i, low formula b z d)

inside_modest : (places : Bool) (n : ℕ) (level : Level) → Modest (Inside places n level)
inside_modest places zero level ts x i = absurd i
inside_modest places (suc n) formula ts x i = expression_modest places (Inside places n) (inside_modest places n) ts x i
inside_modest places (suc n) negated ts x i = negation_modest places (Inside places n) (inside_modest places n) ts x i
inside_modest places (suc n) signed ts x i = unary_modest places (Inside places n) (inside_modest places n) ts x i

pub formulas_modest : (places : Bool) (n : ℕ) → Modest (SpellsWithin places n)
formulas_modest places n = expression_modest places (Inside places n) (inside_modest places n)

pub sums_modest : (places : Bool) (n : ℕ) → Modest (IsSum places (Inside places n))
sums_modest places n = sum_modest places (Inside places n) (inside_modest places n)
