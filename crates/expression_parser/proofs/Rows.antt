-- How an expression is seen that holds a list.
use Rattle.std.proofs.Common.{◌≡◌, List, [], ◌∷◌, ◌++◌, Vec, Box, Global, refl, ap, ◌∙◌}
use Rattle.expression_parser.specs.declared.raw.RawExpr.{RawExpr}
use Rattle.expression_parser.specs.declared.raw.RawTerm.{RawTerm}
use Rattle.expression_parser.specs.declared.raw.RawExprKind as raw_kind
use Rattle.expression_parser.specs.declared.raw.RawExprKind.TheBlock.{hidden-the_row-RawExpr-0, items-the_row-RawExpr, items_hidden-the_row-RawExpr-0, hidden-the_row-RawTerm-1, items-the_row-RawTerm, items_hidden-the_row-RawTerm-1}
use Rattle.expression_parser.specs.ExpressionTree.{Expr, one_more, all, any, kind_view, row_view, terms_row_view, expr_view, exprs_view, terms_view, node, joined, kind_of, start_of}

row_exprs : (n : _) (row : raw_kind.Row_of-RawExpr n) → row_view row ≡ exprs_view (items-the_row-RawExpr n row)
row_exprs n raw_kind.end_of-RawExpr = refl
row_exprs n (raw_kind.more_of-RawExpr place kind rest) = ap (λ xs. one_more (node place (kind_view kind)) xs) (row_exprs _ rest)

pub vector_exprs : (v : Vec RawExpr Global) → row_view (hidden-the_row-RawExpr-0 v) ≡ exprs_view v.items
vector_exprs v = row_exprs _ (hidden-the_row-RawExpr-0 v) ∙ ap exprs_view (items_hidden-the_row-RawExpr-0 v)

pub kind_all : (v : Vec RawExpr Global) → kind_view (raw_kind.All v) ≡ all (exprs_view v.items)
kind_all v = ap all (vector_exprs v)

pub kind_any : (v : Vec RawExpr Global) → kind_view (raw_kind.Any v) ≡ any (exprs_view v.items)
kind_any v = ap any (vector_exprs v)

row_terms : (n : _) (left : Expr) (row : raw_kind.Row_of-RawTerm n) → terms_row_view left row ≡ terms_view left (items-the_row-RawTerm n row)
row_terms n left raw_kind.end_of-RawTerm = refl
row_terms n left (raw_kind.more_of-RawTerm operator sign place kind rest) = row_terms _ (joined operator sign left (node place (kind_view kind))) rest

pub vector_terms : (left : Expr) (v : Vec RawTerm Global) → terms_row_view left (hidden-the_row-RawTerm-1 v) ≡ terms_view left v.items
vector_terms left v = row_terms _ left (hidden-the_row-RawTerm-1 v) ∙ ap (terms_view left) (items_hidden-the_row-RawTerm-1 v)

pub kind_chain : (b : Box RawExpr Global) (v : Vec RawTerm Global) → kind_view (raw_kind.Chain b v) ≡ kind_of (terms_view (expr_view b.value) v.items)
kind_chain b v = ap kind_of (vector_terms (expr_view b.value) v)

-- what the arms of a match on an expression are to contracts
pub ruleset kinds = (kind_all, kind_any, kind_chain)

-- one more term behind the others
pub terms_push : (left : Expr) (ts : List RawTerm) (t : RawTerm) → terms_view left (ts ++ t ∷ []) ≡ joined t.operator t.at (terms_view left ts) (expr_view t.of)
terms_push left [] t = refl
terms_push left (x ∷ ts) t = terms_push (joined x.operator x.at left (expr_view x.of)) ts t

-- a chain begins where its first expression does
pub terms_start : (left : Expr) (ts : List RawTerm) → node (start_of left) (kind_of (terms_view left ts)) ≡ terms_view left ts
terms_start (node place k) [] = refl
terms_start left (t ∷ ts) = terms_start (joined t.operator t.at left (expr_view t.of)) ts
