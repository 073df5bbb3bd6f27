-- Formulas, read with as many levels or with more: what is read stays read, and a fault that is kept stays.
use Rattle.std.proofs.Common.{◌≡◌, ℕ, zero, suc, ◌≤◌, Bool, [], ◌∷◌, ◌++◌, Option, Ok, ◌⊎◌, inl, inr, refl, arith}
use Rattle.st_tokens.specs.declared.limit.LimitKind.TheVariants as limits
use Rattle.st_tokens.specs.Stream.{Stream, behind}
use Rattle.st_reading.specs.declared.mark.Mark.{Mark}
use Rattle.st_reading.specs.declared.mark.Mark.TheVariants as marks
use Rattle.st_reading.specs.declared.sign.Sign.{Sign}
use Rattle.st_reading.specs.Sign.{is}
use Rattle.st_reading.specs.Faults.{Passed, passed}
use Rattle.st_reading.specs.Reading.{ahead, place_of, gives, then_reads, goes, chain, size, only, listing}
use Rattle.st_reading.proofs.Lifting.{Lifted, Lifts, lifted_same, lifts_bind, lifts_map, lifted_cond, lifted_operator, lifts_chain}
use Rattle.expression_parser.specs.declared.raw.Operator.{Operator}
use Rattle.expression_parser.specs.declared.raw.Operator.TheVariants as operators
use Rattle.expression_parser.specs.declared.sign.Front.{Front}
use Rattle.expression_parser.specs.declared.sign.Front.TheVariants as fronts
use Rattle.expression_parser.specs.Signs.{front, product_sign, sum_sign, comparison_sign}
use Rattle.expression_parser.specs.ExpressionTree.{Expr, Exprs, Kind, node, all, any, negation, negative, exprs, start_of, joined}
use Rattle.expression_parser.specs.Reading.{Reader, Down, Level, formula, negated, signed, closing, atom_at, atom_of, unary_at, unary_of, grouping, grouped, product_of, sum_of, compared, comparison_of, negation_at, negation_of, chained, conjunction_of, disjunction_of, implied, expression_of, level_of, below}

module _ (Keep : Passed → Type 0) where
  module _ (places : Bool) (down down2 : Down) (deeper : (level : Level) (place : ℕ) → Lifts Keep (down level place) (down2 level place)) where
    atom_lifted : (s : Stream) (f : Front) → Lifted Keep (atom_at down s f) (atom_at down2 s f)
    atom_lifted s (fronts.Numeral n) = refl
    atom_lifted s (fronts.Truth b) = refl
    atom_lifted s fronts.Name = refl
    atom_lifted s fronts.At = lifted_same Keep (atom_at down s fronts.At)
    atom_lifted s fronts.Open = lifts_bind Keep (down formula (place_of s)) (down2 formula (place_of s)) (closing (place_of s)) (closing (place_of s)) (deeper formula (place_of s)) (λ x m. lifted_same Keep (closing (place_of s) x m)) (behind s)
    atom_lifted s fronts.Minus = λ k. refl
    atom_lifted s fronts.Not = λ k. refl
    atom_lifted s fronts.Other = λ k. refl

    atom_lifts : Lifts Keep (atom_of places down) (atom_of places down2)
    unfolding atom_of
    atom_lifts s = atom_lifted s (front places (ahead s))

    unary_lifted : (s : Stream) (f : Front) → Lifted Keep (unary_at places down s f) (unary_at places down2 s f)
    unary_lifted s fronts.Minus = lifts_map Keep (λ x. node (place_of s) (negative (place_of s) x)) (down signed (place_of s)) (down2 signed (place_of s)) (deeper signed (place_of s)) (behind s)
    unary_lifted s (fronts.Numeral n) = atom_lifts s
    unary_lifted s (fronts.Truth b) = atom_lifts s
    unary_lifted s fronts.Name = atom_lifts s
    unary_lifted s fronts.At = atom_lifts s
    unary_lifted s fronts.Open = atom_lifts s
    unary_lifted s fronts.Not = atom_lifts s
    unary_lifted s fronts.Other = atom_lifts s

    unary_lifts : Lifts Keep (unary_of places down) (unary_of places down2)
    unfolding unary_of
    unary_lifts s = unary_lifted s (front places (ahead s))

    grouped_lifts : (op : Sign → Option Operator) (item item2 : Reader Expr) → Lifts Keep item item2 → Lifts Keep (grouped op item) (grouped op item2)
    grouped_lifts op item item2 h =
        lifts_bind Keep item item2 (λ x s. chain op (grouping item) gives (size s) x s) (λ x s. chain op (grouping item2) gives (size s) x s) h
        (λ x s. lifts_chain Keep op (grouping item) (grouping item2) gives gives (λ o place y. lifts_map Keep (λ z. goes (joined o place y z)) item item2 h) (λ y s. refl) (size s) x s)

    product_lifts : Lifts Keep (product_of places down) (product_of places down2)
    unfolding product_of
    product_lifts = grouped_lifts product_sign (unary_of places down) (unary_of places down2) unary_lifts

    sum_lifts : Lifts Keep (sum_of places down) (sum_of places down2)
    unfolding sum_of
    sum_lifts = grouped_lifts sum_sign (product_of places down) (product_of places down2) product_lifts

    comparison_lifts : Lifts Keep (comparison_of places down) (comparison_of places down2)
    unfolding comparison_of
    comparison_lifts =
        lifts_bind Keep (sum_of places down) (sum_of places down2) (compared (sum_of places down)) (compared (sum_of places down2)) sum_lifts
        (λ x s. lifted_operator Keep (comparison_sign (ahead s)) (Ok (x, s)) (Ok (x, s)) (λ o. then_reads (sum_of places down) (λ y. gives (joined o (place_of s) x y)) (behind s)) (λ o. then_reads (sum_of places down2) (λ y. gives (joined o (place_of s) x y)) (behind s)) refl
        (λ o. lifts_map Keep (λ y. joined o (place_of s) x y) (sum_of places down) (sum_of places down2) sum_lifts (behind s)))

    negation_lifted : (s : Stream) (f : Front) → Lifted Keep (negation_at places down s f) (negation_at places down2 s f)
    negation_lifted s fronts.Not = lifts_map Keep (λ x. node (place_of s) (negation x)) (down negated (place_of s)) (down2 negated (place_of s)) (deeper negated (place_of s)) (behind s)
    negation_lifted s (fronts.Numeral n) = comparison_lifts s
    negation_lifted s (fronts.Truth b) = comparison_lifts s
    negation_lifted s fronts.Name = comparison_lifts s
    negation_lifted s fronts.At = comparison_lifts s
    negation_lifted s fronts.Open = comparison_lifts s
    negation_lifted s fronts.Minus = comparison_lifts s
    negation_lifted s fronts.Other = comparison_lifts s

    negation_lifts : Lifts Keep (negation_of places down) (negation_of places down2)
    unfolding negation_of
    negation_lifts s = negation_lifted s (front places (ahead s))

    chained_lifts : (wrap : Exprs → Kind) (mark : Mark) (item item2 : Reader Expr) → Lifts Keep item item2 → Lifts Keep (then_reads item (chained wrap mark item)) (then_reads item2 (chained wrap mark item2))
    chained_lifts wrap mark item item2 h =
        lifts_bind Keep item item2 (chained wrap mark item) (chained wrap mark item2) h
        (λ x s. lifted_cond Keep (is (ahead s) mark) (chain (only mark) (listing item) (λ xs. gives (node (start_of x) (wrap (exprs xs)))) (size s) (x ∷ []) s) (Ok (x, s)) (chain (only mark) (listing item2) (λ xs. gives (node (start_of x) (wrap (exprs xs)))) (size s) (x ∷ []) s) (Ok (x, s))
        (lifts_chain Keep (only mark) (listing item) (listing item2) (λ xs. gives (node (start_of x) (wrap (exprs xs)))) (λ xs. gives (node (start_of x) (wrap (exprs xs)))) (λ o place ys. lifts_map Keep (λ z. goes (ys ++ z ∷ [])) item item2 h) (λ ys s. refl) (size s) (x ∷ []) s) refl)

    conjunction_lifts : Lifts Keep (conjunction_of places down) (conjunction_of places down2)
    unfolding conjunction_of
    conjunction_lifts = chained_lifts all marks.And (negation_of places down) (negation_of places down2) negation_lifts

    disjunction_lifts : Lifts Keep (disjunction_of places down) (disjunction_of places down2)
    unfolding disjunction_of
    disjunction_lifts = chained_lifts any marks.Or (conjunction_of places down) (conjunction_of places down2) conjunction_lifts

    pub expression_lifts : Lifts Keep (expression_of places down) (expression_of places down2)
    unfolding expression_of
    expression_lifts =
        lifts_bind Keep (disjunction_of places down) (disjunction_of places down2) (implied down) (implied down2) disjunction_lifts
        (λ x s. lifted_cond Keep (is (ahead s) marks.Implies) (then_reads (down formula (place_of s)) (λ y. gives (joined operators.Implies (place_of s) x y)) (behind s)) (Ok (x, s)) (then_reads (down2 formula (place_of s)) (λ y. gives (joined operators.Implies (place_of s) x y)) (behind s)) (Ok (x, s))
        (lifts_map Keep (λ y. joined operators.Implies (place_of s) x y) (down formula (place_of s)) (down2 formula (place_of s)) (deeper formula (place_of s)) (behind s)) refl)

    level_lifts : (level : Level) → Lifts Keep (level_of places down level) (level_of places down2 level)
    level_lifts formula s = expression_lifts s
    level_lifts negated s = negation_lifts s
    level_lifts signed s = unary_lifts s

  -- as many levels, or more where a passed limit on levels isn't kept
  abbrev pub AsDeep : ℕ → ℕ → Type 0
  AsDeep n m = (n ≡ m) ⊎ ((n ≤ m) × ((place : ℕ) → Keep (passed limits.Nesting place) → ⊥))

  pub one_less : (n m : ℕ) → AsDeep (suc n) (suc m) → AsDeep n m
  one_less n m (inl h) = inl (omega arith)
  one_less n m (inr h) = inr (let le = h.0 in omega arith, h.1)

  pub below_lifts : (places : Bool) (n m : ℕ) → AsDeep n m → (level : Level) (place : ℕ) → Lifts Keep (below places n level place) (below places m level place)
  unfolding below
  below_lifts places zero zero h level place s = λ k. refl
  below_lifts places zero (suc m) (inl h) level place s = absurd (omega arith)
  below_lifts places zero (suc m) (inr h) level place s = λ k. absurd (h.1 place k)
  below_lifts places (suc n) zero (inl h) level place s = absurd (omega arith)
  below_lifts places (suc n) zero (inr h) level place s = let le = h.0 in absurd (omega arith)
  below_lifts places (suc n) (suc m) h level place s = level_lifts places (below places n) (below places m) (below_lifts places n m (one_less n m h)) level s
