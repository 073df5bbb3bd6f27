-- How an expression is read.
use Rattle.std.specs.Prelude.{ℕ, zero, suc, Bool, cond, [], ◌∷◌, Option, Ok, Err}
use Rattle.st_tokens.specs.declared.limit.LimitKind.TheVariants as limits
use Rattle.st_tokens.specs.Stream.{Stream, behind}
use Rattle.st_reading.specs.declared.mark.Mark.{Mark}
use Rattle.st_reading.specs.declared.mark.Mark.TheVariants as marks
use Rattle.st_reading.specs.declared.sign.Sign.{Sign}
use Rattle.st_reading.specs.Sign.{is}
use Rattle.st_reading.specs.Faults.{Passed, passed}
use Rattle.st_reading.specs.Reading.{other, Read, ahead, place_of, name_of, refusal, expected, named, gives, then_reads, Turn, goes, on_operator, chain, size, only, listing}
use Rattle.expression_parser.specs.declared.raw.Operator.{Operator}
use Rattle.expression_parser.specs.declared.raw.Operator.TheVariants as operators
use Rattle.expression_parser.specs.declared.sign.Front.{Front}
use Rattle.expression_parser.specs.declared.sign.Front.TheVariants as fronts
use Rattle.expression_parser.specs.Signs.{front, product_sign, sum_sign, comparison_sign}
use Rattle.expression_parser.specs.ExpressionTree.{Expr, Exprs, node, Kind, numeral, truth, name, at, negation, negative, all, any, exprs, kind_of, start_of, joined}

abbrev pub Reader : Type 0 → Type 0
Reader A = Stream → Read Passed A

-- where a further level may begin
pub data Level : Type 0 where
  formula : Level
  negated : Level
  signed : Level

-- A reader of what is one level down, given the place of the token that opens the level.
abbrev pub Down : Type 0
Down = Level → ℕ → Reader Expr

-- ")"
abbrev pub closing : ℕ → Expr → Reader Expr
closing place x = then_reads (expected marks.Close) (λ m. gives (node place (kind_of x)))

-- an operand, seen by f
abbrev pub seen : (Expr → Expr) → Reader Expr → Reader Expr
seen f r = then_reads r (λ x. gives (f x))

abbrev pub atom_at : Down → Stream → Front → Read Passed Expr
atom_at down s (fronts.Numeral n) = Ok (node (place_of s) (numeral n), behind s)
atom_at down s (fronts.Truth b) = Ok (node (place_of s) (truth b), behind s)
atom_at down s fronts.Name = Ok (node (place_of s) (name (name_of s)), behind s)
atom_at down s fronts.At = then_reads named (λ x. gives (node (place_of s) (at x))) (behind s)
atom_at down s fronts.Open = then_reads (down formula (place_of s)) (closing (place_of s)) (behind s)
atom_at down s _ = Err (refusal s)

unfoldable pub atom_of : Bool → Down → Reader Expr
atom_of places down s = atom_at down s (front places (ahead s))

abbrev pub unary_at : Bool → Down → Stream → Front → Read Passed Expr
unary_at places down s fronts.Minus = seen (λ x. node (place_of s) (negative (place_of s) x)) (down signed (place_of s)) (behind s)
unary_at places down s _ = atom_of places down s

unfoldable pub unary_of : Bool → Down → Reader Expr
unary_of places down s = unary_at places down s (front places (ahead s))

-- a further operand, and what is grouped with it
abbrev pub grouping : Reader Expr → Operator → ℕ → Expr → Reader (Turn Expr Expr)
grouping item o place left = then_reads item (λ x. gives (goes (joined o place left x)))

-- items with operators between them, grouped from the left
abbrev pub grouped : (Sign → Option Operator) → Reader Expr → Reader Expr
grouped op item = then_reads item (λ x s. chain op (grouping item) gives (size s) x s)

unfoldable pub product_of : Bool → Down → Reader Expr
product_of places down s = grouped product_sign (unary_of places down) s

unfoldable pub sum_of : Bool → Down → Reader Expr
sum_of places down s = grouped sum_sign (product_of places down) s

abbrev pub compared : Reader Expr → Expr → Reader Expr
compared item x s = on_operator (comparison_sign (ahead s)) (Ok (x, s)) (λ o. seen (λ y. joined o (place_of s) x y) item (behind s))

unfoldable pub comparison_of : Bool → Down → Reader Expr
comparison_of places down s = then_reads (sum_of places down) (compared (sum_of places down)) s

abbrev pub negation_at : Bool → Down → Stream → Front → Read Passed Expr
negation_at places down s fronts.Not = seen (λ x. node (place_of s) (negation x)) (down negated (place_of s)) (behind s)
negation_at places down s _ = comparison_of places down s

unfoldable pub negation_of : Bool → Down → Reader Expr
negation_of places down s = negation_at places down s (front places (ahead s))

-- Behind the first item: the chain, where its mark comes; else the item stands for itself.
abbrev pub chained : (Exprs → Kind) → Mark → Reader Expr → Expr → Reader Expr
chained wrap mark item x s =
    cond (is (ahead s) mark) (chain (only mark) (listing item) (λ xs. gives (node (start_of x) (wrap (exprs xs)))) (size s) (x ∷ []) s) (Ok (x, s))

unfoldable pub conjunction_of : Bool → Down → Reader Expr
conjunction_of places down s = then_reads (negation_of places down) (chained all marks.And (negation_of places down)) s

unfoldable pub disjunction_of : Bool → Down → Reader Expr
disjunction_of places down s = then_reads (conjunction_of places down) (chained any marks.Or (conjunction_of places down)) s

abbrev pub implied : Down → Expr → Reader Expr
implied down x s = cond (is (ahead s) marks.Implies) (seen (λ y. joined operators.Implies (place_of s) x y) (down formula (place_of s)) (behind s)) (Ok (x, s))

unfoldable pub expression_of : Bool → Down → Reader Expr
expression_of places down s = then_reads (disjunction_of places down) (implied down) s

abbrev pub level_of : Bool → Down → Level → Reader Expr
level_of places down formula s = expression_of places down s
level_of places down negated s = negation_of places down s
level_of places down signed s = unary_of places down s

-- what is one level down, where that many levels may still be opened
unfoldable pub below : Bool → ℕ → Down
below places zero level place s = Err (other (passed limits.Nesting place))
below places (suc room) level place s = level_of places (below places room) level s
