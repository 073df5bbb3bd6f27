-- No reader of expressions refuses a token directly behind what it can read.
use Rattle.std.proofs.Common.{◌≡◌, ℕ, zero, suc, ◌≤◌, Bool, true, false, cond, List, [], ◌∷◌, ◌++◌, length, Option, Some, None, Ok, Err, inl, inr, refl, sym, ap, ◌∙◌, ◌⊎◌, arith}
use Rattle.st_tokens.specs.declared.limit.LimitKind.TheVariants as limits
use Rattle.st_tokens.specs.Stream.{◌++>◌, Lexeme, Stream, ends, more}
use Rattle.st_reading.specs.declared.mark.Mark.{Mark}
use Rattle.st_reading.specs.declared.mark.Mark.TheVariants as marks
use Rattle.st_reading.specs.declared.sign.Sign.{Sign}
use Rattle.st_reading.specs.declared.sign.Sign.TheVariants as signs
use Rattle.st_reading.specs.Sign.{sign_of, is}
use Rattle.st_reading.specs.Faults.{Passed, passed}
use Rattle.st_reading.specs.Reading.{Stop, syntax, other, ahead, size, label_of, expected, named, gives, then_reads, goes, on_operator, chain, only, listing}
use Rattle.st_reading.specs.Steady.{SteadyAt}
use Rattle.st_reading.proofs.Soundness.{Shrinks, values}
use Rattle.st_reading.proofs.Spelled.{none_spelled}
use Rattle.st_reading.proofs.Lawful.{Lawful, Opens}
use Rattle.expression_parser.specs.declared.raw.Operator.{Operator}
use Rattle.expression_parser.specs.declared.raw.Operator.TheVariants as operators
use Rattle.expression_parser.specs.declared.sign.Front.{Front}
use Rattle.expression_parser.specs.declared.sign.Front.TheVariants as fronts
use Rattle.expression_parser.specs.Signs.{front, product_sign, sum_sign, comparison_sign}
use Rattle.expression_parser.specs.ExpressionTree.{Expr, Exprs, Kind, node, numeral, truth, name, at, negation as negation_kind, negative, all, any, exprs, kind_of, start_of, joined}
use Rattle.expression_parser.specs.Calm.{calm}
use Rattle.expression_parser.specs.Reading.{Reader, Level, formula, negated, signed, Down, closing, seen, atom_of, unary_of, grouping, grouped, product_of, sum_of, compared, comparison_of, negation_of, chained, conjunction_of, disjunction_of, implied, expression_of, below}
use Rattle.expression_parser.proofs.Quiet.{close_token, close_is, close_calm}
use Rattle.expression_parser.proofs.FormulaTheorems.{quiet}
use Rattle.expression_parser.proofs.ExpressionShrinking.{below_shrinks}
use Rattle.expression_parser.proofs.ExpressionLaw.{lawful_unary, lawful_product, lawful_sum, lawful_comparison, lawful_negation, lawful_conjunction, lawful_disjunction, lawful_expression, level_opens, larger}
use Rattle.script_grammar.proofs.Greedy.{Greedy, Needs, Reaches, not_both, two_ends, needs_bind, needs_refusal, greedy_gives, greedy_expected, greedy_named, greedy_map, greedy_bind, greedy_loop}

-- ENDS
module _ (places : Bool) (down : Down) where
  atom_needs : (e : ℕ) → atom_of places down (ends e) ≡ Err (syntax e)
  unfolding atom_of
  atom_needs e = refl

  unary_needs : (e : ℕ) → unary_of places down (ends e) ≡ Err (syntax e)
  unfolding unary_of
  unary_needs e = atom_needs e

  product_needs : Needs (product_of places down)
  unfolding product_of
  product_needs = needs_bind (unary_of places down) (λ x s. chain product_sign (grouping (unary_of places down)) gives (size s) x s) (needs_refusal (unary_of places down) unary_needs)

  sum_needs : Needs (sum_of places down)
  unfolding sum_of
  sum_needs = needs_bind (product_of places down) (λ x s. chain sum_sign (grouping (product_of places down)) gives (size s) x s) product_needs

  comparison_needs : Needs (comparison_of places down)
  unfolding comparison_of
  comparison_needs = needs_bind (sum_of places down) (compared (sum_of places down)) sum_needs

  negation_needs : Needs (negation_of places down)
  unfolding negation_of
  negation_needs = record { fault = comparison_needs.fault; refuses = λ e. comparison_needs.refuses e; names = λ e place h. comparison_needs.names e place h }

  conjunction_needs : Needs (conjunction_of places down)
  unfolding conjunction_of
  conjunction_needs = needs_bind (negation_of places down) (chained all marks.And (negation_of places down)) negation_needs

  disjunction_needs : Needs (disjunction_of places down)
  unfolding disjunction_of
  disjunction_needs = needs_bind (conjunction_of places down) (chained any marks.Or (conjunction_of places down)) conjunction_needs

  pub expression_needs : Needs (expression_of places down)
  unfolding expression_of
  expression_needs = needs_bind (disjunction_of places down) (implied down) disjunction_needs

  pub sum_needs_token : Needs (sum_of places down)
  sum_needs_token = sum_needs

no_place : (x : Passed) (p : ℕ) → other x ≡ syntax p → ⊥
no_place x p h = cc

below_needs : (places : Bool) (n : ℕ) (level : Level) (place : ℕ) → Needs (below places n level place)
unfolding below
below_needs places zero level place = record { fault = λ e. other (passed limits.Nesting place); refuses = λ e. refl; names = λ e p h. absurd (no_place (passed limits.Nesting place) p h) }
below_needs places (suc n) formula place = expression_needs places (below places n)
below_needs places (suc n) negated place = negation_needs places (below places n)
below_needs places (suc n) signed place = needs_refusal (unary_of places (below places n)) (unary_needs places (below places n))

-- PRODUCTIONS
module _ {I : Type 0} (places : Bool) (down : Down) (downs : I → Down) (opens : (level : Level) (place : ℕ) → Opens calm calm (passed limits.Nesting place) (down level place) (λ i. downs i level place))
    (one : (level : Level) (place : ℕ) → Shrinks (down level place)) (each : (i : I) (level : Level) (place : ℕ) → Shrinks (downs i level place))
    (greedy : (level : Level) (place : ℕ) (n : ℕ) → Greedy n (down level place)) (needs : (level : Level) (place : ℕ) → Needs (down level place)) where
  closes : (place : ℕ) (x : Expr) → Reaches calm (closing place x)
  closes place x = let e = close_is in record { text = close_token ∷ []; calms = close_calm; value = node place (kind_of x); reads = rw e refl }

  in_group : (place n : ℕ) → Greedy n (then_reads (down formula place) (closing place))
  in_group place n = at_opens (opens formula place)
    where
      at_opens : Opens calm calm (passed limits.Nesting place) (down formula place) (λ i. downs i formula place) → Greedy n (then_reads (down formula place) (closing place))
      at_opens (inl deep) = λ ts x d p le h no_more. let bad = deep.0 (ts ++> ends 0) in not_both (then_reads (down formula place) (closing place) (ts ++> ends 0)) (x, ends 0) (other (passed limits.Nesting place)) h (rw bad refl)
      at_opens (inr steady) =
          greedy_bind calm quiet (down formula place) (λ i. downs i formula place) steady (closing place) (closes place) n (greedy formula place n)
          (λ x. greedy_map n (λ m. node place (kind_of x)) (expected marks.Close) (greedy_expected n marks.Close))

  atom_front : (n : ℕ) (t : Lexeme) (ts : List Lexeme) (x : Expr) (d : Lexeme) (place : ℕ) → length ts ≤ n → atom_of places down (more t (ts ++> ends 0)) ≡ Ok (x, ends 0) → ((m : Stream) → atom_of places down (more t (ts ++> more d m)) ≡ Err (syntax place)) → (f : Front) → f ≡ front places (sign_of t) → ⊥
  unfolding atom_of
  atom_front n t ts x d place le h no_more (fronts.Numeral k) e = not_both (atom_of places down (more t (ts ++> more d (ends 0)))) (node t.start (numeral k), ts ++> more d (ends 0)) (syntax place) (rw (← e) refl) (no_more (ends 0))
  atom_front n t ts x d place le h no_more (fronts.Truth b) e = not_both (atom_of places down (more t (ts ++> more d (ends 0)))) (node t.start (truth b), ts ++> more d (ends 0)) (syntax place) (rw (← e) refl) (no_more (ends 0))
  atom_front n t ts x d place le h no_more fronts.Name e = not_both (atom_of places down (more t (ts ++> more d (ends 0)))) (node t.start (name (label_of t)), ts ++> more d (ends 0)) (syntax place) (rw (← e) refl) (no_more (ends 0))
  atom_front n t ts x d place le h no_more fronts.At e =
      let same : (s : Stream) → atom_of places down (more t s) ≡ then_reads named (λ l. gives (node t.start (at l))) s = λ s. rw (← e) refl in
      greedy_map n (λ l. node t.start (at l)) named (greedy_named {X = Passed} n) ts x d place le (sym (same (ts ++> ends 0)) ∙ h) (λ m. sym (same (ts ++> more d m)) ∙ no_more m)
  atom_front n t ts x d place le h no_more fronts.Open e =
      let same : (s : Stream) → atom_of places down (more t s) ≡ then_reads (down formula t.start) (closing t.start) s = λ s. rw (← e) refl in
      in_group t.start n ts x d place le (sym (same (ts ++> ends 0)) ∙ h) (λ m. sym (same (ts ++> more d m)) ∙ no_more m)
  atom_front n t ts x d place le h no_more _ e = not_both (atom_of places down (more t (ts ++> ends 0))) (x, ends 0) (syntax t.start) h (rw (← e) refl)

  greedy_atom : (n : ℕ) → Greedy n (atom_of places down)
  greedy_atom n [] x d place le h no_more = not_both (atom_of places down (ends 0)) (x, ends 0) (syntax 0) h (atom_needs places down 0)
  greedy_atom n (t ∷ ts) x d place le h no_more = atom_front n t ts x d place (omega (arith, le)) h no_more (front places (sign_of t)) refl

  unary_front : (n : ℕ) (t : Lexeme) (ts : List Lexeme) (x : Expr) (d : Lexeme) (place : ℕ) → length (t ∷ ts) ≤ n → unary_of places down (more t (ts ++> ends 0)) ≡ Ok (x, ends 0) → ((m : Stream) → unary_of places down (more t (ts ++> more d m)) ≡ Err (syntax place)) → (f : Front) → f ≡ front places (sign_of t) → ⊥
  unfolding unary_of
  unary_front n t ts x d place le h no_more fronts.Minus e =
      let same : (s : Stream) → unary_of places down (more t s) ≡ then_reads (down signed t.start) (λ y. gives (node t.start (negative t.start y))) s = λ s. rw (← e) refl in
      greedy_map n (λ y. node t.start (negative t.start y)) (down signed t.start) (greedy signed t.start n) ts x d place (omega (arith, le)) (sym (same (ts ++> ends 0)) ∙ h) (λ m. sym (same (ts ++> more d m)) ∙ no_more m)
  unary_front n t ts x d place le h no_more _ e =
      let same : (s : Stream) → unary_of places down (more t s) ≡ atom_of places down (more t s) = λ s. rw (← e) refl in
      greedy_atom n (t ∷ ts) x d place le (sym (same (ts ++> ends 0)) ∙ h) (λ m. sym (same (ts ++> more d m)) ∙ no_more m)

  greedy_unary : (n : ℕ) → Greedy n (unary_of places down)
  greedy_unary n [] x d place le h no_more = not_both (unary_of places down (ends 0)) (x, ends 0) (syntax 0) h (unary_needs places down 0)
  greedy_unary n (t ∷ ts) x d place le h no_more = unary_front n t ts x d place le h no_more (front places (sign_of t)) refl

  module _ (op : Sign → Option Operator) (none : None ≡ op signs.Nothing) (item : Reader Expr) (items : I → Reader Expr) (lawful : Lawful calm calm item items) (needs_item : Needs item) (greedy_item : (n : ℕ) → Greedy n item) where
    reaches_loop : (x : Expr) → Reaches calm (λ s. chain op (grouping item) gives (size s) x s)
    unfolding chain
    reaches_loop x = record { text = []; calms = quiet; value = x; reads = refl }

    greedy_grouped : (n : ℕ) → Greedy n (grouped op item)
    greedy_grouped n =
        greedy_bind calm quiet item items lawful.law (λ x s. chain op (grouping item) gives (size s) x s) reaches_loop n (greedy_item n)
        (greedy_loop calm quiet op none item items lawful needs_item greedy_item (λ o place x y. joined o place x y) (λ x. x) n)

  greedy_product : (n : ℕ) → Greedy n (product_of places down)
  unfolding product_of
  greedy_product n = greedy_grouped product_sign refl (unary_of places down) (λ i. unary_of places (downs i)) (lawful_unary places down downs opens one each) (needs_refusal (unary_of places down) (unary_needs places down)) greedy_unary n

  pub greedy_sum : (n : ℕ) → Greedy n (sum_of places down)
  unfolding sum_of
  greedy_sum n = greedy_grouped sum_sign refl (product_of places down) (λ i. product_of places (downs i)) (lawful_product places down downs opens one each) (product_needs places down) greedy_product n

  -- a comparison
  module _ (left : Expr) where
    compared_end : (n : ℕ) (d : Lexeme) (place : ℕ) → ((m : Stream) → compared (sum_of places down) left (more d m) ≡ Err (syntax place)) → (o : Option Operator) → comparison_sign (sign_of d) ≡ o → ⊥
    compared_end n d place no_more None e = not_both (compared (sum_of places down) left (more d (ends 0))) (left, more d (ends 0)) (syntax place) (rw e refl) (no_more (ends 0))
    compared_end n d place no_more (Some o) e =
        let same : (s : Stream) → compared (sum_of places down) left (more d s) ≡ then_reads (sum_of places down) (λ y. gives (joined o d.start left y)) s = λ s. rw e refl in
        two_ends (then_reads (sum_of places down) (λ y. gives (joined o d.start left y))) (needs_bind (sum_of places down) (λ y. gives (joined o d.start left y)) (sum_needs places down)) place (λ p. sym (same (ends p)) ∙ no_more (ends p))

    compared_more : (n : ℕ) (t : Lexeme) (ts : List Lexeme) (x : Expr) (d : Lexeme) (place : ℕ) → length ts ≤ n → compared (sum_of places down) left (more t (ts ++> ends 0)) ≡ Ok (x, ends 0) → ((m : Stream) → compared (sum_of places down) left (more t (ts ++> more d m)) ≡ Err (syntax place)) → (o : Option Operator) → comparison_sign (sign_of t) ≡ o → ⊥
    compared_more n t ts x d place le h no_more None e =
        let v = values (compared (sum_of places down) left (more t (ts ++> ends 0))) left x (more t (ts ++> ends 0)) (ends 0) (rw e refl) h in
        let bad : more t (ts ++> ends 0) ≡ ends 0 = v.1 in
        absurd cc
    compared_more n t ts x d place le h no_more (Some o) e =
        let same : (s : Stream) → compared (sum_of places down) left (more t s) ≡ then_reads (sum_of places down) (λ y. gives (joined o t.start left y)) s = λ s. rw e refl in
        greedy_map n (λ y. joined o t.start left y) (sum_of places down) (greedy_sum n) ts x d place le (sym (same (ts ++> ends 0)) ∙ h) (λ m. sym (same (ts ++> more d m)) ∙ no_more m)

    greedy_compared : (n : ℕ) → Greedy n (compared (sum_of places down) left)
    greedy_compared n [] x d place le h no_more = compared_end n d place no_more (comparison_sign (sign_of d)) refl
    greedy_compared n (t ∷ ts) x d place le h no_more = compared_more n t ts x d place (omega (arith, le)) h no_more (comparison_sign (sign_of t)) refl

  greedy_comparison : (n : ℕ) → Greedy n (comparison_of places down)
  unfolding comparison_of
  greedy_comparison n =
      greedy_bind calm quiet (sum_of places down) (λ i. sum_of places (downs i)) ((lawful_sum places down downs opens one each).law) (compared (sum_of places down)) (λ x. record { text = []; calms = quiet; value = x; reads = refl }) n (greedy_sum n) (λ x. greedy_compared x n)

  negation_front : (n : ℕ) (t : Lexeme) (ts : List Lexeme) (x : Expr) (d : Lexeme) (place : ℕ) → length (t ∷ ts) ≤ n → negation_of places down (more t (ts ++> ends 0)) ≡ Ok (x, ends 0) → ((m : Stream) → negation_of places down (more t (ts ++> more d m)) ≡ Err (syntax place)) → (f : Front) → f ≡ front places (sign_of t) → ⊥
  unfolding negation_of
  negation_front n t ts x d place le h no_more fronts.Not e =
      let same : (s : Stream) → negation_of places down (more t s) ≡ then_reads (down negated t.start) (λ y. gives (node t.start (negation_kind y))) s = λ s. rw (← e) refl in
      greedy_map n (λ y. node t.start (negation_kind y)) (down negated t.start) (greedy negated t.start n) ts x d place (omega (arith, le)) (sym (same (ts ++> ends 0)) ∙ h) (λ m. sym (same (ts ++> more d m)) ∙ no_more m)
  negation_front n t ts x d place le h no_more _ e =
      let same : (s : Stream) → negation_of places down (more t s) ≡ comparison_of places down (more t s) = λ s. rw (← e) refl in
      greedy_comparison n (t ∷ ts) x d place le (sym (same (ts ++> ends 0)) ∙ h) (λ m. sym (same (ts ++> more d m)) ∙ no_more m)

  greedy_negation : (n : ℕ) → Greedy n (negation_of places down)
  greedy_negation n [] x d place le h no_more = let k = negation_needs places down in not_both (negation_of places down (ends 0)) (x, ends 0) (k.fault 0) h (k.refuses 0)
  greedy_negation n (t ∷ ts) x d place le h no_more = negation_front n t ts x d place le h no_more (front places (sign_of t)) refl

  -- items with marks between them
  module _ (wrap : Exprs → Kind) (mark : Mark) (item : Reader Expr) (items : I → Reader Expr) (lawful : Lawful calm calm item items) (needs_item : Needs item) (greedy_item : (n : ℕ) → Greedy n item) where
    module _ (x : Expr) where
      abbrev tail : List Expr → Reader Expr
      tail xs s = chain (only mark) (listing item) (λ xs. gives (node (start_of x) (wrap (exprs xs)))) (size s) xs s

      greedy_tail : (n : ℕ) (xs : List Expr) → Greedy n (tail xs)
      greedy_tail n xs = greedy_loop calm quiet (only mark) refl item items lawful needs_item greedy_item (λ o place ys y. ys ++ y ∷ []) (λ ys. node (start_of x) (wrap (exprs ys))) n xs

      tail_ends : (xs : List Expr) → tail xs (ends 0) ≡ Ok (node (start_of x) (wrap (exprs xs)), ends 0)
      unfolding chain
      tail_ends xs = refl

      by_mark : (t : Lexeme) (b : Bool) → is (sign_of t) mark ≡ b → (s : Stream) → chained wrap mark item x (more t s) ≡ cond b (tail (x ∷ []) (more t s)) (Ok (x, more t s))
      by_mark t b e s = rw e refl

      greedy_chained : (n : ℕ) → Greedy n (chained wrap mark item x)
      greedy_chained n [] y d place le h no_more = at_test (is (sign_of d) mark) refl
        where
          at_test : (b : Bool) → is (sign_of d) mark ≡ b → ⊥
          at_test true e = greedy_tail n (x ∷ []) [] (node (start_of x) (wrap (exprs (x ∷ [])))) d place le (tail_ends (x ∷ [])) (λ m. sym (by_mark d true e m) ∙ no_more m)
          at_test false e = not_both (chained wrap mark item x (more d (ends 0))) (x, more d (ends 0)) (syntax place) (by_mark d false e (ends 0)) (no_more (ends 0))
      greedy_chained n (t ∷ ts) y d place le h no_more = at_test (is (sign_of t) mark) refl
        where
          at_test : (b : Bool) → is (sign_of t) mark ≡ b → ⊥
          at_test true e = greedy_tail n (x ∷ []) (t ∷ ts) y d place le (sym (by_mark t true e (ts ++> ends 0)) ∙ h) (λ m. sym (by_mark t true e (ts ++> more d m)) ∙ no_more m)
          at_test false e =
              let v = values (chained wrap mark item x (more t (ts ++> ends 0))) x y (more t (ts ++> ends 0)) (ends 0) (by_mark t false e (ts ++> ends 0)) h in
              let bad : more t (ts ++> ends 0) ≡ ends 0 = v.1 in
              absurd cc

    greedy_row : (n : ℕ) → Greedy n (then_reads item (chained wrap mark item))
    greedy_row n = greedy_bind calm quiet item items lawful.law (chained wrap mark item) (λ x. record { text = []; calms = quiet; value = x; reads = refl }) n (greedy_item n) (λ x. greedy_chained x n)

  greedy_conjunction : (n : ℕ) → Greedy n (conjunction_of places down)
  unfolding conjunction_of
  greedy_conjunction n = greedy_row all marks.And (negation_of places down) (λ i. negation_of places (downs i)) (lawful_negation places down downs opens one each) (negation_needs places down) greedy_negation n

  greedy_disjunction : (n : ℕ) → Greedy n (disjunction_of places down)
  unfolding disjunction_of
  greedy_disjunction n = greedy_row any marks.Or (conjunction_of places down) (λ i. conjunction_of places (downs i)) (lawful_conjunction places down downs opens one each) (conjunction_needs places down) greedy_conjunction n

  module _ (x : Expr) where
    implied_by : (t : Lexeme) (b : Bool) → is (sign_of t) marks.Implies ≡ b → (s : Stream) → implied down x (more t s) ≡ cond b (then_reads (down formula t.start) (λ y. gives (joined operators.Implies t.start x y)) s) (Ok (x, more t s))
    implied_by t b e s = rw e refl

    greedy_implied : (n : ℕ) → Greedy n (implied down x)
    greedy_implied n [] y d place le h no_more = at_test (is (sign_of d) marks.Implies) refl
      where
        at_test : (b : Bool) → is (sign_of d) marks.Implies ≡ b → ⊥
        at_test true e =
            two_ends (then_reads (down formula d.start) (λ y. gives (joined operators.Implies d.start x y))) (needs_bind (down formula d.start) (λ y. gives (joined operators.Implies d.start x y)) (needs formula d.start)) place (λ p. sym (implied_by d true e (ends p)) ∙ no_more (ends p))
        at_test false e = not_both (implied down x (more d (ends 0))) (x, more d (ends 0)) (syntax place) (implied_by d false e (ends 0)) (no_more (ends 0))
    greedy_implied n (t ∷ ts) y d place le h no_more = at_test (is (sign_of t) marks.Implies) refl
      where
        at_test : (b : Bool) → is (sign_of t) marks.Implies ≡ b → ⊥
        at_test true e =
            greedy_map n (λ y. joined operators.Implies t.start x y) (down formula t.start) (greedy formula t.start n) ts y d place (omega (arith, le)) (sym (implied_by t true e (ts ++> ends 0)) ∙ h) (λ m. sym (implied_by t true e (ts ++> more d m)) ∙ no_more m)
        at_test false e =
            let v = values (implied down x (more t (ts ++> ends 0))) x y (more t (ts ++> ends 0)) (ends 0) (implied_by t false e (ts ++> ends 0)) h in
            let bad : more t (ts ++> ends 0) ≡ ends 0 = v.1 in
            absurd cc

  pub greedy_expression : (n : ℕ) → Greedy n (expression_of places down)
  unfolding expression_of
  greedy_expression n =
      greedy_bind calm quiet (disjunction_of places down) (λ i. disjunction_of places (downs i)) ((lawful_disjunction places down downs opens one each).law) (implied down) (λ x. record { text = []; calms = quiet; value = x; reads = refl }) n (greedy_disjunction n) (λ x. greedy_implied x n)

-- ALL LEVELS
greedy_below : (places : Bool) (room : ℕ) (level : Level) (place : ℕ) (n : ℕ) → Greedy n (below places room level place)
unfolding below
greedy_below places zero level place n = λ ts x d p le h no_more. not_both (below places zero level place (ts ++> ends 0)) (x, ends 0) (other (passed limits.Nesting place)) h refl
greedy_below places (suc room) formula place n = greedy_expression places (below places room) (λ i. below places (larger room i)) (level_opens places room) (below_shrinks places room) (λ i. below_shrinks places (larger room i)) (greedy_below places room) (below_needs places room) n
greedy_below places (suc room) negated place n = greedy_negation places (below places room) (λ i. below places (larger room i)) (level_opens places room) (below_shrinks places room) (λ i. below_shrinks places (larger room i)) (greedy_below places room) (below_needs places room) n
greedy_below places (suc room) signed place n = greedy_unary places (below places room) (λ i. below places (larger room i)) (level_opens places room) (below_shrinks places room) (λ i. below_shrinks places (larger room i)) (greedy_below places room) (below_needs places room) n

pub formulas_greedy : (places : Bool) (room n : ℕ) → Greedy n (λ s. expression_of places (below places room) s)
formulas_greedy places room n =
    greedy_expression places (below places room) (λ i. below places (larger room i)) (level_opens places room) (below_shrinks places room) (λ i. below_shrinks places (larger room i)) (greedy_below places room) (below_needs places room) n

pub sums_greedy : (places : Bool) (room n : ℕ) → Greedy n (λ s. sum_of places (below places room) s)
sums_greedy places room n =
    greedy_sum places (below places room) (λ i. below places (larger room i)) (level_opens places room) (below_shrinks places room) (λ i. below_shrinks places (larger room i)) (greedy_below places room) (below_needs places room) n
