-- How a tree is seen that holds a list.
use Rattle.std.proofs.Common.{◌≡◌, ℕ, Vec, Box, Global, Result, Ok, Err, MatchResult, refl, sym, ap, ◌∙◌}
use Rattle.expression_parser.specs.declared.raw.RawExpr.{RawExpr}
use Rattle.expression_parser.specs.declared.raw.RawTerm.{RawTerm}
use Rattle.expression_parser.specs.declared.raw.RawExprKind.TheViews as seen
use Rattle.st_tokens.specs.Stream.{Stream}
use Rattle.st_reading.specs.declared.fault.ParseFault.{ParseFault}
use Rattle.st_reading.specs.declared.fault.ParseFault.TheVariants as faults
use Rattle.st_reading.specs.Reading.{Read, Reads}
use Rattle.st_reading.specs.Faults.{Passed, see}
use Rattle.expression_parser.proofs.Rows.{vector_exprs, vector_terms, terms_start}
use Rattle.expression_parser.specs.ExpressionTree.{Expr, node, all, any, negation, negative, expr_view, views, exprs, terms_view, kind_of}

pub view_all : (place : ℕ) (v : Vec RawExpr Global) → expr_view (seen.roll-RawExpr (record { place = place; kind = seen.All v })) ≡ node place (all (exprs (views v.items)))
view_all place v = ap (λ xs. node place (all xs)) (vector_exprs v)

pub view_any : (place : ℕ) (v : Vec RawExpr Global) → expr_view (seen.roll-RawExpr (record { place = place; kind = seen.Any v })) ≡ node place (any (exprs (views v.items)))
view_any place v = ap (λ xs. node place (any xs)) (vector_exprs v)

-- a chain begins at its first expression
pub view_chain : (x : RawExpr) (b : Box RawExpr Global) (v : Vec RawTerm Global) → b.value ≡ x → expr_view (seen.roll-RawExpr (record { place = x.place; kind = seen.Chain b v })) ≡ terms_view (expr_view x) v.items
view_chain x b v is =
    ap (λ t. node x.place (kind_of t)) (vector_terms (expr_view b.value) v) ∙ ap (λ y. node x.place (kind_of (terms_view (expr_view y) v.items))) is ∙ terms_start (expr_view x) v.items

pub view_not : (place : ℕ) (b : Box RawExpr Global) → expr_view (seen.roll-RawExpr (record { place = place; kind = seen.Not b })) ≡ node place (negation (expr_view b.value))
view_not place b = refl

pub view_negate : (place sign : ℕ) (b : Box RawExpr Global) → expr_view (seen.roll-RawExpr (record { place = place; kind = seen.Negate sign b })) ≡ node place (negative sign (expr_view b.value))
view_negate place sign b = refl

pub reads_made : (r : Result RawExpr ParseFault) (after : Stream) (whole : Read Passed Expr) (x : Expr) → MatchResult r (λ e. expr_view e ≡ x) (λ e. e ≡ faults.Memory) → whole ≡ Ok (x, after) → Reads see expr_view r after whole
reads_made (Ok e) after whole x made is = is ∙ ap (λ y. Ok (y, after)) (sym made)
reads_made (Err e) after whole x made is = rw made tt
