-- The plain twin of a raw expression: the same tree, without where it lies in memory.
use Rattle.std.specs.Prelude.{ℕ, Bool, List, [], ◌∷◌, map}
use Rattle.expression_parser.specs.declared.raw.Operator.{Operator}
use Rattle.expression_parser.specs.declared.raw.RawExpr.{RawExpr}
use Rattle.expression_parser.specs.declared.raw.RawExprKind.{RawExprKind}
use Rattle.expression_parser.specs.declared.raw.RawExprKind.TheBlock.{Row_of-RawExpr, end_of-RawExpr, more_of-RawExpr, Row_of-RawTerm, end_of-RawTerm, more_of-RawTerm}
use Rattle.expression_parser.specs.declared.raw.RawExprKind.TheVariants as raw
use Rattle.expression_parser.specs.declared.raw.RawTerm.{RawTerm}
use Rattle.st_reading.specs.Reading.{Label}
use Rattle.st_reading.specs.Faults.{name_view}

mutual
  -- an expression: the place of its first token, and what it is
  pub data Expr : Type 0 where
    node : ℕ → Kind → Expr

  pub data Kind : Type 0 where
    numeral : ℕ → Kind
    truth : Bool → Kind
    name : Label → Kind
    at : Label → Kind
    negation : Expr → Kind
    negative : ℕ → Expr → Kind
    all : Exprs → Kind
    any : Exprs → Kind
    pair : Operator → ℕ → Expr → Expr → Kind

  pub data Exprs : Type 0 where
    none : Exprs
    one_more : Expr → Exprs → Exprs

abbrev pub kind_of : Expr → Kind
kind_of (node place k) = k

abbrev pub start_of : Expr → ℕ
start_of (node place k) = place

-- an expression with an operator, at that place, and a further one behind it
abbrev pub joined : Operator → ℕ → Expr → Expr → Expr
joined o place left right = node (start_of left) (pair o place left right)

abbrev mutual
  pub kind_view : RawExprKind → Kind
  kind_view (raw.Numeral n) = numeral n
  kind_view (raw.Truth b) = truth b
  kind_view (raw.Name n) = name (name_view n)
  kind_view (raw.At n) = at (name_view n)
  kind_view (raw.Not' p place kind) = negation (node place (kind_view kind))
  kind_view (raw.Negate' sign p place kind) = negative sign (node place (kind_view kind))
  kind_view (raw.All' shape items) = all (row_view items)
  kind_view (raw.Any' shape items) = any (row_view items)
  kind_view (raw.Chain' p place kind shape terms) = kind_of (terms_row_view (node place (kind_view kind)) terms)
  kind_view (raw.Pair' operator sign p place kind q place2 kind2) = pair operator sign (node place (kind_view kind)) (node place2 (kind_view kind2))

  pub row_view : {m : _} → Row_of-RawExpr m → Exprs
  row_view end_of-RawExpr = none
  row_view (more_of-RawExpr place kind rest) = one_more (node place (kind_view kind)) (row_view rest)

  -- further terms behind an expression, grouped from the left
  pub terms_row_view : {m : _} → Expr → Row_of-RawTerm m → Expr
  terms_row_view left end_of-RawTerm = left
  terms_row_view left (more_of-RawTerm operator sign place kind rest) = terms_row_view (joined operator sign left (node place (kind_view kind))) rest

abbrev pub expr_view : RawExpr → Expr
expr_view e = node e.place (kind_view e.kind)

abbrev pub exprs : List Expr → Exprs
exprs [] = none
exprs (x ∷ xs) = one_more x (exprs xs)

abbrev pub views : List RawExpr → List Expr
views xs = map expr_view xs

abbrev pub exprs_view : List RawExpr → Exprs
exprs_view xs = exprs (views xs)

-- further terms behind an expression, grouped from the left
abbrev pub terms_view : Expr → List RawTerm → Expr
terms_view left [] = left
terms_view left (t ∷ ts) = terms_view (joined t.operator t.at left (expr_view t.of)) ts
