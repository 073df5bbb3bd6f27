-- What is left by the readers of expressions is no more than there was; and the shortest expression.
use Rattle.std.proofs.Common.{◌≡◌, ℕ, zero, suc, ◌≤◌, Bool, true, false, cond, [], ◌∷◌, ◌++◌, Option, Some, None, Ok, refl, sym, ap, ◌∙◌, arith}
use Rattle.st_tokens.specs.Stream.{Stream, more, behind}
use Rattle.st_reading.specs.declared.mark.Mark.{Mark}
use Rattle.st_reading.specs.declared.mark.Mark.TheVariants as marks
use Rattle.st_reading.specs.declared.sign.Sign.{Sign}
use Rattle.st_reading.specs.Sign.{sign_of, is}
use Rattle.st_reading.specs.Faults.{Passed}
use Rattle.st_reading.specs.Reading.{ahead, place_of, name_of, expected, named, gives, goes, on_operator, chain, size, only, listing}
use Rattle.st_reading.specs.Steady.{Viable}
use Rattle.st_reading.proofs.Steadiness.{bind_ok}
use Rattle.st_reading.proofs.Soundness.{Shrinks}
use Rattle.st_reading.proofs.Shrinking.{left, shrinks_gives, shrinks_bind, shrinks_map, shrinks_expected, shrinks_named, shrinks_chain}
use Rattle.st_reading.proofs.Streams.{behind_size}
use Rattle.st_reading.proofs.Chains.{chain_none}
use Rattle.st_reading.proofs.Spelled.{one_spelled}
use Rattle.expression_parser.specs.declared.raw.Operator.{Operator}
use Rattle.expression_parser.specs.declared.raw.Operator.TheVariants as operators
use Rattle.expression_parser.specs.declared.sign.Front.{Front}
use Rattle.expression_parser.specs.declared.sign.Front.TheVariants as fronts
use Rattle.expression_parser.specs.Signs.{front, product_sign, sum_sign, comparison_sign}
use Rattle.expression_parser.specs.ExpressionTree.{Expr, Exprs, Kind, node, numeral, truth, name, at, negation as negation_kind, negative, all, any, exprs, kind_of, start_of, joined}
use Rattle.expression_parser.specs.Calm.{calm}
use Rattle.expression_parser.specs.Reading.{Reader, Level, formula, negated, signed, Down, closing, seen, atom_at, atom_of, unary_at, unary_of, grouping, grouped, product_of, sum_of, compared, comparison_of, negation_at, negation_of, chained, conjunction_of, disjunction_of, implied, expression_of, below}
use Rattle.expression_parser.proofs.Quiet.{quiet, product_calm, sum_calm, comparison_calm, zero_token, zero_calm, zero_spelled}

module _ (places : Bool) (d : Down) (sh : (level : Level) (place : ℕ) → Shrinks (d level place)) where
  atom_shrinks_at : (s : Stream) (x : Expr) (rest : Stream) (f : Front) → atom_at d s f ≡ Ok (x, rest) → size rest ≤ size s
  atom_shrinks_at s x rest (fronts.Numeral n) h = let k = left {X = Passed} (node (place_of s) (numeral n)) x (behind s) rest h in omega (arith, k, behind_size s)
  atom_shrinks_at s x rest (fronts.Truth b) h = let k = left {X = Passed} (node (place_of s) (truth b)) x (behind s) rest h in omega (arith, k, behind_size s)
  atom_shrinks_at s x rest fronts.Name h = let k = left {X = Passed} (node (place_of s) (name (name_of s))) x (behind s) rest h in omega (arith, k, behind_size s)
  atom_shrinks_at s x rest fronts.At h = let k = shrinks_map {X = Passed} (λ l. node (place_of s) (at l)) named shrinks_named (behind s) x rest h in omega (arith, k, behind_size s)
  atom_shrinks_at s x rest fronts.Open h =
      let k = shrinks_bind (d formula (place_of s)) (closing (place_of s)) (sh formula (place_of s)) (λ y. shrinks_map (λ m. node (place_of s) (kind_of y)) (expected marks.Close) (shrinks_expected marks.Close)) (behind s) x rest h in
      omega (arith, k, behind_size s)
  atom_shrinks_at s x rest _ h = cc

  atom_shrinks : Shrinks (atom_of places d)
  unfolding atom_of
  atom_shrinks s x rest h = atom_shrinks_at s x rest (front places (ahead s)) h

  unary_shrinks_at : (s : Stream) (x : Expr) (rest : Stream) (f : Front) → unary_at places d s f ≡ Ok (x, rest) → size rest ≤ size s
  unary_shrinks_at s x rest fronts.Minus h = let k = shrinks_map (λ y. node (place_of s) (negative (place_of s) y)) (d signed (place_of s)) (sh signed (place_of s)) (behind s) x rest h in omega (arith, k, behind_size s)
  unary_shrinks_at s x rest _ h = atom_shrinks s x rest h

  pub unary_shrinks : Shrinks (unary_of places d)
  unfolding unary_of
  unary_shrinks s x rest h = unary_shrinks_at s x rest (front places (ahead s)) h

module _ (places : Bool) (d : Down) (sh : (level : Level) (place : ℕ) → Shrinks (d level place)) (below_it : Shrinks (comparison_of places d)) where
  negation_shrinks_at : (s : Stream) (x : Expr) (rest : Stream) (f : Front) → negation_at places d s f ≡ Ok (x, rest) → size rest ≤ size s
  negation_shrinks_at s x rest fronts.Not h = let k = shrinks_map (λ y. node (place_of s) (negation_kind y)) (d negated (place_of s)) (sh negated (place_of s)) (behind s) x rest h in omega (arith, k, behind_size s)
  negation_shrinks_at s x rest _ h = below_it s x rest h

  pub negation_shrinks : Shrinks (negation_of places d)
  unfolding negation_of
  negation_shrinks s x rest h = negation_shrinks_at s x rest (front places (ahead s)) h

module _ (x : Expr) where
  implied_shrinks_at : (d : Down) → ((level : Level) (place : ℕ) → Shrinks (d level place)) → (s : Stream) (y : Expr) (rest : Stream) (b : Bool)
      → cond b (seen (λ y. joined operators.Implies (place_of s) x y) (d formula (place_of s)) (behind s)) (gives {X = Passed} x s) ≡ Ok (y, rest) → size rest ≤ size s
  implied_shrinks_at d sh s y rest true h = let k = shrinks_map (λ y. joined operators.Implies (place_of s) x y) (d formula (place_of s)) (sh formula (place_of s)) (behind s) y rest h in omega (arith, k, behind_size s)
  implied_shrinks_at d sh s y rest false h = left {X = Passed} x y s rest h

  pub implied_shrinks : (d : Down) → ((level : Level) (place : ℕ) → Shrinks (d level place)) → Shrinks (implied d x)
  implied_shrinks d sh s y rest h = implied_shrinks_at d sh s y rest (is (ahead s) marks.Implies) h

compared_shrinks_at : (x : Expr) (r : Reader Expr) → Shrinks r → (s : Stream) (y : Expr) (rest : Stream) (o : Option Operator) → on_operator o (gives {X = Passed} x s) (λ o. seen (λ y. joined o (place_of s) x y) r (behind s)) ≡ Ok (y, rest) → size rest ≤ size s
compared_shrinks_at x r sh s y rest None h = left {X = Passed} x y s rest h
compared_shrinks_at x r sh s y rest (Some o) h = let k = shrinks_map (λ y. joined o (place_of s) x y) r sh (behind s) y rest h in omega (arith, k, behind_size s)

chained_shrinks_at : (wrap : Exprs → Kind) (mark : Mark) (x : Expr) (r : Reader Expr) → Shrinks r → (s : Stream) (y : Expr) (rest : Stream) (b : Bool)
    → cond b (chain (only mark) (listing r) (λ xs. gives (node (start_of x) (wrap (exprs xs)))) (size s) (x ∷ []) s) (gives {X = Passed} x s) ≡ Ok (y, rest) → size rest ≤ size s
chained_shrinks_at wrap mark x r sh s y rest true h =
    shrinks_chain (only mark) (listing r) (λ xs. gives (node (start_of x) (wrap (exprs xs)))) (λ o place xs. shrinks_map (λ y. goes (xs ++ y ∷ [])) r sh) (λ xs. shrinks_gives (node (start_of x) (wrap (exprs xs)))) (size s) (x ∷ []) s y rest h
chained_shrinks_at wrap mark x r sh s y rest false h = left {X = Passed} x y s rest h

module _ (places : Bool) (d : Down) (sh : (level : Level) (place : ℕ) → Shrinks (d level place)) where
  grouped_shrinks : (op : Sign → Option Operator) (item : Reader Expr) → Shrinks item → Shrinks (grouped op item)
  grouped_shrinks op item k =
      shrinks_bind item (λ x s. chain op (grouping item) gives (size s) x s) k
      (λ x s. shrinks_chain op (grouping item) gives (λ o place x. shrinks_map (λ y. goes (joined o place x y)) item k) (λ x. shrinks_gives x) (size s) x s)

  product_shrinks : Shrinks (product_of places d)
  unfolding product_of
  product_shrinks = grouped_shrinks product_sign (unary_of places d) (unary_shrinks places d sh)

  sum_shrinks : Shrinks (sum_of places d)
  unfolding sum_of
  sum_shrinks = grouped_shrinks sum_sign (product_of places d) product_shrinks

  comparison_shrinks : Shrinks (comparison_of places d)
  unfolding comparison_of
  comparison_shrinks = shrinks_bind (sum_of places d) (compared (sum_of places d)) sum_shrinks (λ x s y rest h. compared_shrinks_at x (sum_of places d) sum_shrinks s y rest (comparison_sign (ahead s)) h)

  any_negation_shrinks : Shrinks (negation_of places d)
  any_negation_shrinks = negation_shrinks places d sh comparison_shrinks

  conjunction_shrinks : Shrinks (conjunction_of places d)
  unfolding conjunction_of
  conjunction_shrinks =
      shrinks_bind (negation_of places d) (chained all marks.And (negation_of places d)) any_negation_shrinks (λ x s y rest h. chained_shrinks_at all marks.And x (negation_of places d) any_negation_shrinks s y rest (is (ahead s) marks.And) h)

  disjunction_shrinks : Shrinks (disjunction_of places d)
  unfolding disjunction_of
  disjunction_shrinks =
      shrinks_bind (conjunction_of places d) (chained any marks.Or (conjunction_of places d)) conjunction_shrinks (λ x s y rest h. chained_shrinks_at any marks.Or x (conjunction_of places d) conjunction_shrinks s y rest (is (ahead s) marks.Or) h)

  pub expression_shrinks : Shrinks (expression_of places d)
  unfolding expression_of
  expression_shrinks = shrinks_bind (disjunction_of places d) (implied d) disjunction_shrinks (λ x. implied_shrinks x d sh)

pub below_shrinks : (places : Bool) (n : ℕ) (level : Level) (place : ℕ) → Shrinks (below places n level place)
unfolding below
below_shrinks places zero level place s x rest h = cc
below_shrinks places (suc n) formula place s x rest h = expression_shrinks places (below places n) (below_shrinks places n) s x rest h
below_shrinks places (suc n) negated place s x rest h = any_negation_shrinks places (below places n) (below_shrinks places n) s x rest h
below_shrinks places (suc n) signed place s x rest h = unary_shrinks places (below places n) (below_shrinks places n) s x rest h

-- "0" is an expression
abbrev zero_expr : Expr
zero_expr = node 0 (numeral 0)

module _ (places : Bool) (d : Down) (after : Stream) (c : calm (ahead after) ≡ true) where
  unary_zero : unary_of places d (more zero_token after) ≡ Ok (zero_expr, after)
  unfolding unary_of atom_of zero_token
  unary_zero = refl

  product_zero : product_of places d (more zero_token after) ≡ Ok (zero_expr, after)
  unfolding product_of
  product_zero =
      bind_ok (unary_of places d) (λ x s. chain product_sign (grouping (unary_of places d)) gives (size s) x s) (more zero_token after) zero_expr after unary_zero
      ∙ chain_none product_sign (grouping (unary_of places d)) gives (size after) zero_expr after (sym (product_calm (ahead after) c))

  sum_zero : sum_of places d (more zero_token after) ≡ Ok (zero_expr, after)
  unfolding sum_of
  sum_zero =
      bind_ok (product_of places d) (λ x s. chain sum_sign (grouping (product_of places d)) gives (size s) x s) (more zero_token after) zero_expr after product_zero
      ∙ chain_none sum_sign (grouping (product_of places d)) gives (size after) zero_expr after (sym (sum_calm (ahead after) c))

  comparison_zero : comparison_of places d (more zero_token after) ≡ Ok (zero_expr, after)
  unfolding comparison_of
  comparison_zero =
      let e = comparison_calm (ahead after) c in
      bind_ok (sum_of places d) (compared (sum_of places d)) (more zero_token after) zero_expr after sum_zero ∙ rw e refl

  front_zero : front places (sign_of zero_token) ≡ fronts.Numeral 0
  unfolding zero_token
  front_zero = refl

  negation_zero : negation_of places d (more zero_token after) ≡ Ok (zero_expr, after)
  unfolding negation_of
  negation_zero = ap (negation_at places d (more zero_token after)) front_zero ∙ comparison_zero

  conjunction_zero : conjunction_of places d (more zero_token after) ≡ Ok (zero_expr, after)
  unfolding conjunction_of
  conjunction_zero =
      let e : is (ahead after) marks.And ≡ false = quiet 10 (omega arith) (ahead after) c in
      bind_ok (negation_of places d) (chained all marks.And (negation_of places d)) (more zero_token after) zero_expr after negation_zero ∙ rw e refl

  disjunction_zero : disjunction_of places d (more zero_token after) ≡ Ok (zero_expr, after)
  unfolding disjunction_of
  disjunction_zero =
      let e : is (ahead after) marks.Or ≡ false = quiet 11 (omega arith) (ahead after) c in
      bind_ok (conjunction_of places d) (chained any marks.Or (conjunction_of places d)) (more zero_token after) zero_expr after conjunction_zero ∙ rw e refl

  expression_zero : expression_of places d (more zero_token after) ≡ Ok (zero_expr, after)
  unfolding expression_of
  expression_zero =
      let e : is (ahead after) marks.Implies ≡ false = quiet 12 (omega arith) (ahead after) c in
      bind_ok (disjunction_of places d) (implied d) (more zero_token after) zero_expr after disjunction_zero ∙ rw e refl

zero_level : (places : Bool) (n : ℕ) (level : Level) (place : ℕ) (after : Stream) → calm (ahead after) ≡ true → below places (suc n) level place (more zero_token after) ≡ Ok (zero_expr, after)
unfolding below
zero_level places n formula place after c = expression_zero places (below places n) after c
zero_level places n negated place after c = negation_zero places (below places n) after c
zero_level places n signed place after c = unary_zero places (below places n) after c

pub viable_level : (places : Bool) (n : ℕ) (level : Level) (place : ℕ) → Viable calm calm (below places (suc n) level place) []
viable_level places n level place = record { others = zero_token ∷ []; spelled = one_spelled zero_token zero_spelled; value = zero_expr; begins = λ n after h. zero_calm; reads = λ after h. zero_level places n level place after h }
