-- What is left behind a formula or an integer expression is no more than there was.
use Rattle.std.proofs.Common.{◌≡◌, ◌≤◌, true, Option, Result, Ok, Err, refl, ap, arith}
use Rattle.st_tokens.specs.Stream.{Stream}
use Rattle.st_reading.specs.Faults.{Passed}
use Rattle.st_reading.specs.declared.sign.Sign.{Sign}
use Rattle.st_reading.specs.Reading.{Read, gives, goes, chain, size}
use Rattle.st_reading.proofs.Soundness.{Shrinks}
use Rattle.st_reading.proofs.Shrinking.{shrinks_gives, shrinks_bind, shrinks_map, shrinks_chain}
use Rattle.expression_parser.specs.declared.raw.Operator.{Operator}
use Rattle.expression_parser.specs.Signs.{product_sign, sum_sign}
use Rattle.expression_parser.specs.ExpressionTree.{Expr, joined}
use Rattle.expression_parser.specs.Reading.{Reader, below, grouping, grouped, unary_of, product_of, sum_of, expression_of}
use Rattle.expression_parser.proofs.ExpressionShrinking.{unary_shrinks, expression_shrinks, below_shrinks}
use Rattle.expression_typer.specs.declared.fault.TypeFault.{TypeFault}
use Rattle.expression_typer.specs.Scope.{Names}
use Rattle.st_linear.specs.Linear.{Linear}
use Rattle.st_form.specs.Formula.{Formula}
use Rattle.assertions.specs.Reading.{before, typed_behind, truth_of, number_of, form_of, linear_of}

grouped_shrinks : (op : Sign → Option Operator) (item : Reader Expr) → Shrinks item → Shrinks (grouped op item)
grouped_shrinks op item k =
    shrinks_bind item (λ x s. chain op (grouping item) gives (size s) x s) k
    (λ x s. shrinks_chain op (grouping item) gives (λ o place x. shrinks_map (λ y. goes (joined o place x y)) item k) (λ x. shrinks_gives x) (size s) x s)

product_shrinks : Shrinks (product_of true (below true 32))
unfolding product_of
product_shrinks = grouped_shrinks product_sign (unary_of true (below true 32)) (unary_shrinks true (below true 32) (below_shrinks true 32))

sum_shrinks : Shrinks (sum_of true (below true 32))
unfolding sum_of
sum_shrinks = grouped_shrinks sum_sign (product_of true (below true 32)) product_shrinks

module _ {A : Type 0} (typing : Expr → Result A TypeFault) (x : A) (rest : Stream) where
  left_behind : (t : Result A TypeFault) (m : Stream) → before m t ≡ Ok (x, rest) → m ≡ rest
  left_behind (Ok y) m h = let e : (y, m) ≡ (x, rest) = cc in ap (λ (p : A × Stream). p.1) e
  left_behind (Err f) m h = absurd cc

  typed_shrinks : (r : Read Passed Expr) (s : Stream) → ((e : Expr) (m : Stream) → r ≡ Ok (e, m) → size m ≤ size s) → typed_behind typing r ≡ Ok (x, rest) → size rest ≤ size s
  typed_shrinks (Ok (e, m)) s short h = let k = short e m refl in omega (arith, k, ap size (left_behind (typing e) m h))
  typed_shrinks (Err f) s short h = absurd cc

pub form_shrinks : (names : Names) (s : Stream) (f : Formula) (rest : Stream) → form_of names s ≡ Ok (f, rest) → size rest ≤ size s
unfolding form_of
form_shrinks names s f rest h = typed_shrinks (truth_of names) f rest (expression_of true (below true 32) s) s (λ e m g. expression_shrinks true (below true 32) (below_shrinks true 32) s e m g) h

pub linear_shrinks : (names : Names) (s : Stream) (f : Linear) (rest : Stream) → linear_of names s ≡ Ok (f, rest) → size rest ≤ size s
unfolding linear_of
linear_shrinks names s f rest h = typed_shrinks (number_of names) f rest (sum_of true (below true 32) s) s (λ e m g. sum_shrinks s e m g) h
