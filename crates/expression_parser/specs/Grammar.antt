-- The grammar of formulas: which token lists stand for which trees, production by production.
use Rattle.std.specs.Prelude.{◌≡◌, ℕ, zero, suc, Bool, List, [], ◌∷◌, ◌++◌, Option, Some}
use Rattle.st_tokens.specs.Stream.{Lexeme}
use Rattle.st_reading.specs.declared.mark.Mark.{Mark}
use Rattle.st_reading.specs.declared.mark.Mark.TheVariants as marks
use Rattle.st_reading.specs.declared.sign.Sign.{Sign}
use Rattle.st_reading.specs.Sign.{sign_of}
use Rattle.st_reading.specs.Reading.{label_of}
use Rattle.st_reading.specs.Spelling.{Is, IsName, Row2}
use Rattle.expression_parser.specs.declared.raw.Operator.{Operator}
use Rattle.expression_parser.specs.declared.raw.Operator.TheVariants as operators
use Rattle.expression_parser.specs.declared.sign.Front.{Front}
use Rattle.expression_parser.specs.declared.sign.Front.TheVariants as fronts
use Rattle.expression_parser.specs.Signs.{front, product_sign, sum_sign, comparison_sign}
use Rattle.expression_parser.specs.ExpressionTree.{Expr, Exprs, Kind, node, numeral, truth, name, at, negation, negative, all, any, exprs, kind_of, start_of, joined}
use Rattle.expression_parser.specs.Reading.{Level, formula, negated, signed}

-- The token stands so at the front of an expression.
abbrev pub Fronts : Bool → Front → Lexeme → Type 0
Fronts places x t = front places (sign_of t) ≡ x

-- `down` is what stands one level down; `at` stands where `places` are asked for.
module _ (places : Bool) (down : Level → List Lexeme → Expr → Type 0) where
  -- atom = numeral | "true" | "false" | name | "at" name | "(" expr ")"
  pub data IsAtom : List Lexeme → Expr → Type 0 where
    a_numeral : (t : Lexeme) (n : ℕ) → Fronts places (fronts.Numeral n) t → IsAtom (t ∷ []) (node t.start (numeral n))
    a_truth : (t : Lexeme) (b : Bool) → Fronts places (fronts.Truth b) t → IsAtom (t ∷ []) (node t.start (truth b))
    a_name : (t : Lexeme) → Fronts places fronts.Name t → IsAtom (t ∷ []) (node t.start (name (label_of t)))
    a_place : (t u : Lexeme) → Fronts places fronts.At t → IsName u → IsAtom (t ∷ u ∷ []) (node t.start (at (label_of u)))
    a_group : (t u : Lexeme) (ts : List Lexeme) (x : Expr) → Fronts places fronts.Open t → down formula ts x → Is marks.Close u → IsAtom (t ∷ ts ++ u ∷ []) (node t.start (kind_of x))

  -- unary = "-" unary | atom
  pub data IsUnary : List Lexeme → Expr → Type 0 where
    minus : (t : Lexeme) (ts : List Lexeme) (x : Expr) → Fronts places fronts.Minus t → down signed ts x → IsUnary (t ∷ ts) (node t.start (negative t.start x))
    plain : (ts : List Lexeme) (x : Expr) → IsAtom ts x → IsUnary ts x

-- { op item }, grouped from the left behind an expression
pub data Behind (op : Sign → Option Operator) (item : List Lexeme → Expr → Type 0) : Expr → List Lexeme → Expr → Type 0 where
  stop : (x : Expr) → Behind op item x [] x
  go : (x : Expr) (t : Lexeme) (o : Operator) (a b : List Lexeme) (y z : Expr) → op (sign_of t) ≡ Some o → item a y → Behind op item (joined o t.start x y) b z → Behind op item x (t ∷ a ++ b) z

-- item { op item }
pub data IsGrouped (op : Sign → Option Operator) (item : List Lexeme → Expr → Type 0) : List Lexeme → Expr → Type 0 where
  grouping : (a b : List Lexeme) (x z : Expr) → item a x → Behind op item x b z → IsGrouped op item (a ++ b) z

-- item { mark item }; one item stands for itself
pub data IsChained (wrap : Exprs → Kind) (mark : Mark) (item : List Lexeme → Expr → Type 0) : List Lexeme → Expr → Type 0 where
  alone : (a : List Lexeme) (x : Expr) → item a x → IsChained wrap mark item a x
  chained : (a : List Lexeme) (x y : Expr) (ys : List Expr) → Row2 mark item a (x ∷ y ∷ ys) → IsChained wrap mark item a (node (start_of x) (wrap (exprs (x ∷ y ∷ ys))))

module _ (places : Bool) (down : Level → List Lexeme → Expr → Type 0) where
  -- prod = unary { "*" unary } ; sum = prod { ( "+" | "-" ) prod }
  abbrev pub IsProduct : List Lexeme → Expr → Type 0
  IsProduct = IsGrouped product_sign (IsUnary places down)

  abbrev pub IsSum : List Lexeme → Expr → Type 0
  IsSum = IsGrouped sum_sign IsProduct

  -- cmp = sum [ ( "=" | "!=" | "<" | "<=" | ">" | ">=" ) sum ]
  pub data IsComparison : List Lexeme → Expr → Type 0 where
    sum : (ts : List Lexeme) (x : Expr) → IsSum ts x → IsComparison ts x
    compare : (a b : List Lexeme) (t : Lexeme) (o : Operator) (x y : Expr) → IsSum a x → comparison_sign (sign_of t) ≡ Some o → IsSum b y → IsComparison (a ++ t ∷ b) (joined o t.start x y)

  -- neg = "~" neg | cmp
  pub data IsNegation : List Lexeme → Expr → Type 0 where
    tilde : (t : Lexeme) (ts : List Lexeme) (x : Expr) → Fronts places fronts.Not t → down negated ts x → IsNegation (t ∷ ts) (node t.start (negation x))
    straight : (ts : List Lexeme) (x : Expr) → IsComparison ts x → IsNegation ts x

  -- con = neg { "/\" neg } ; dis = con { "\/" con }
  abbrev pub IsConjunction : List Lexeme → Expr → Type 0
  IsConjunction = IsChained all marks.And IsNegation

  abbrev pub IsDisjunction : List Lexeme → Expr → Type 0
  IsDisjunction = IsChained any marks.Or IsConjunction

  -- expr = dis [ "->" expr ]
  pub data IsExpression : List Lexeme → Expr → Type 0 where
    disjunction : (ts : List Lexeme) (x : Expr) → IsDisjunction ts x → IsExpression ts x
    implication : (a b : List Lexeme) (t : Lexeme) (x y : Expr) → IsDisjunction a x → Is marks.Implies t → down formula b y → IsExpression (a ++ t ∷ b) (joined operators.Implies t.start x y)

-- What stands one level down, with that many levels at most.
abbrev pub Inside : Bool → ℕ → Level → List Lexeme → Expr → Type 0
Inside places zero level ts x = ⊥
Inside places (suc n) formula ts x = IsExpression places (Inside places n) ts x
Inside places (suc n) negated ts x = IsNegation places (Inside places n) ts x
Inside places (suc n) signed ts x = IsUnary places (Inside places n) ts x

-- the tokens spell the formula, with some number of levels
abbrev pub SpellsWithin : Bool → ℕ → List Lexeme → Expr → Type 0
SpellsWithin places n ts x = IsExpression places (Inside places n) ts x

abbrev pub Formula : Bool → List Lexeme → Expr → Type 0
Formula places ts x = (n : ℕ) × SpellsWithin places n ts x
