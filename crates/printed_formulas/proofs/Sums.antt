-- Sums as they are printed: terms by rising variable, and the constant last.
use Rattle.std.proofs.Common.{◌≡◌, ◌≢◌, ℕ, zero, suc, ◌<◌, ◌≤◌, ◌^◌, nat_lt, Bool, true, false, ◌&&◌, List, [], ◌∷◌, ◌++◌, refl, sym, ap, subst, ◌∙◌, arith, codes, Some, Ok, ℤ, pos, negsuc, ◌+ℤ◌, append-nil, append_assoc}
use Rattle.std.specs.Fmt.{decimal, signed_decimal}
use Rattle.std.proofs.lemmas.Int.{ints}
use Rattle.std.proofs.lemmas.Bool.Decides.{nat_tests}
use Rattle.st_tokens.specs.Stream.{Lexeme}
use Rattle.st_reading.specs.Mark.{number}
use Rattle.st_reading.specs.Sign.{symbol_sign}
use Rattle.expression_parser.specs.declared.raw.Operator.TheVariants as operators
use Rattle.expression_parser.specs.ExpressionTree.{Expr}
use Rattle.expression_parser.specs.Signs.{sum_sign, product_sign}
use Rattle.expression_parser.specs.Grammar.{Inside, IsSum}
use Rattle.st_linear.specs.Linear as linear
use Rattle.st_linear.specs.Linear.{Linear, AreEntries, AllAbove, joined, sum_of}
use Rattle.st_linear.specs.Simple.{negated}
use Rattle.st_program.specs.Names as tables
use Rattle.st_program.specs.Tree as terms
use Rattle.st_program.specs.Groups.{is_written_number, are_written}
use Rattle.expression_typer.specs.Naming.{names_of}
use Rattle.expression_typer.specs.Scope.{Names}
use Rattle.expression_typer.specs.Written.{is_writable, limited}
use Rattle.expression_typer.specs.Answers.{◌>>=◌}
use Rattle.step_report.specs.Names.{variable_text}
use Rattle.step_report.specs.Sums.{first_sign, next_sign, times_text, term_text, more_terms, constant_text, terms_text, sum_text}
use Rattle.printed_formulas.specs.Loose.{IsLoose}
use Rattle.printed_formulas.specs.Printable.{IsNamed, AreNumbers, IsPrintableSum}
use Rattle.printed_formulas.proofs.Pieces.{Piece, rewritten}
use Rattle.printed_formulas.proofs.Symbols.{plus_piece, less_piece}
use Rattle.printed_formulas.proofs.Atoms.{Spells, written_zero, written_size, writable, limited_ok}
use Rattle.printed_formulas.proofs.Operands.{GoesOn, stop_piece, go_piece, last_piece, group_piece, lone_piece}
use Rattle.printed_formulas.proofs.Terms.{term, Product, Unary, unary_number, minus_number, term_piece, minus_term_piece}

-- entries one behind the other
pub joined-none : (es : List (ℕ × ℤ)) → joined es [] ≡ es
joined-none [] = refl
joined-none (e ∷ es) = refl

above-last : (u : ℕ) (ds : List (ℕ × ℤ)) (e : ℕ × ℤ) (es : List (ℕ × ℤ)) → AllAbove u (ds ++ e ∷ es) → u < e.0
above-last u [] e es h = h.0
above-last u (d ∷ ds) e es h = above-last u ds e es h.1

less-test : (u v : ℕ) → u < v → nat_lt u v ≡ true
less-test u v h = grind (arith, nat_tests, h)

joined-last : (ds : List (ℕ × ℤ)) (v : ℕ) (c : ℤ) (es : List (ℕ × ℤ)) → AreEntries (ds ++ (v, c) ∷ es) → joined ds ((v, c) ∷ []) ≡ ds ++ (v, c) ∷ []
joined-last [] v c es h = refl
joined-last (d ∷ ds) v c es h = rw (less-test d.0 v (above-last d.0 ds (v, c) es h.0)) (ap (λ (xs : List (ℕ × ℤ)). d ∷ xs) (joined-last ds v c es h.2))

entry-some : (ds : List (ℕ × ℤ)) (e : ℕ × ℤ) (es : List (ℕ × ℤ)) → AreEntries (ds ++ e ∷ es) → e.1 ≢ pos 0
entry-some [] e es h = h.1
entry-some (d ∷ ds) e es h = entry-some ds e es h.2

both-true : (a b : Bool) → (a && b) ≡ true → (a ≡ true) × (b ≡ true)
both-true true b h = (refl, h)
both-true false b h = absurd cc

written-parts : (xs ys : List (ℕ × ℤ)) → are_written (xs ++ ys) ≡ true → (are_written xs ≡ true) × (are_written ys ≡ true)
written-parts [] ys h = (refl, h)
written-parts (x ∷ xs) ys h =
    let p = both-true (is_written_number x.1) (are_written (xs ++ ys)) h in
    let q = written-parts xs ys p.1 in
    (rw (p.0, q.0) refl, q.1)

pub writable-parts : (c : ℤ) (es : List (ℕ × ℤ)) → is_writable (record { constant = c; entries = es }) ≡ true → (is_written_number c ≡ true) × (are_written es ≡ true)
unfolding is_writable
writable-parts c es h = both-true (is_written_number c) (are_written es) h

sign-loose : (z : ℤ) (a b c after : List ℕ) → IsLoose ((((next_sign z ++ a) ++ b) ++ c) ++ after)
sign-loose (pos n) a b c after = refl
sign-loose (negsuc n) a b c after = refl

-- one number more, and one less
sum-number : (ds : List (ℕ × ℤ)) (c : ℤ) → sum_of (record { constant = pos 0; entries = ds }) (linear.number c) ≡ record { constant = c; entries = ds }
sum-number ds c =
    let e : pos 0 +ℤ c ≡ c = omega (arith, ints) in
    rw e (ap (λ (es : List (ℕ × ℤ)). record { constant = c; entries = es }) (joined-none ds))

limited-to : (place : ℕ) (f g : Linear) → f ≡ g → is_writable g ≡ true → (limited place f >>= λ h. Ok (terms.number h)) ≡ Ok (terms.number g)
limited-to place f g e w = ap (λ (x : Linear). limited place x >>= λ h. Ok (terms.number h)) e ∙ ap (λ r. r >>= λ h. Ok (terms.number h)) (limited_ok place g w)

-- one term more
sum-term : (ds : List (ℕ × ℤ)) (v : ℕ) (c : ℤ) (es : List (ℕ × ℤ)) → AreEntries (ds ++ (v, c) ∷ es) → sum_of (record { constant = pos 0; entries = ds }) (term v c) ≡ record { constant = pos 0; entries = ds ++ (v, c) ∷ [] }
sum-term ds v c es h = ap (λ (xs : List (ℕ × ℤ)). record { constant = pos 0; entries = xs }) (joined-last ds v c es h)

plus_is : sum_sign (symbol_sign (codes "+")) ≡ Some operators.Plus
unfolding number
plus_is = refl

less_is : sum_sign (symbol_sign (codes "-")) ≡ Some operators.Minus
unfolding number
less_is = refl

module _ (t : tables.Names) (m : ℕ) where
  abbrev names : Names
  names = names_of t

  abbrev summed : List (ℕ × ℤ) → Linear
  summed ds = record { constant = pos 0; entries = ds }

  abbrev Goes : List (ℕ × ℤ) → Linear → List Lexeme → Type 0
  Goes ds h = GoesOn names sum_sign (Product t m) (terms.number (summed ds)) (terms.number h)

  number_product : (k : ℕ) → k ≤ 2 ^ 30 → Piece IsLoose (decimal k) (Spells names (Product t m) (terms.number (linear.number (pos k))))
  number_product k h = lone_piece names product_sign (Unary names m) IsLoose (terms.number (linear.number (pos k))) (decimal k) (unary_number t m (suc m) k h)

  constant_piece : (ds : List (ℕ × ℤ)) (c : ℤ) → are_written ds ≡ true → is_written_number c ≡ true → Piece IsLoose (constant_text c) (Goes ds (record { constant = c; entries = ds }))
  constant_piece ds (pos zero) w h = stop_piece names sum_sign (Product t m) IsLoose (terms.number (summed ds))
  constant_piece ds (pos (suc k)) w h =
      last_piece names sum_sign (Product t m) operators.Plus refl (codes "+") plus_is (summed ds) (linear.number (pos (suc k))) (record { constant = pos (suc k); entries = ds }) (terms.number (record { constant = pos (suc k); entries = ds }))
      (λ place. limited-to place (sum_of (summed ds) (linear.number (pos (suc k)))) (record { constant = pos (suc k); entries = ds }) (sum-number ds (pos (suc k))) (writable (pos (suc k)) ds h w))
      IsLoose (codes " + ") (decimal (suc k)) refl plus_piece (number_product (suc k) (written_size (pos (suc k)) h))
  constant_piece ds (negsuc k) w h =
      last_piece names sum_sign (Product t m) operators.Minus refl (codes "-") less_is (summed ds) (linear.number (pos (suc k))) (record { constant = negsuc k; entries = ds }) (terms.number (record { constant = negsuc k; entries = ds }))
      (λ place. limited-to place (sum_of (summed ds) (negated (linear.number (pos (suc k))))) (record { constant = negsuc k; entries = ds }) (sum-number ds (negsuc k)) (writable (negsuc k) ds h w))
      IsLoose (codes " - ") (decimal (suc k)) refl less_piece (number_product (suc k) (written_size (negsuc k) h))

  -- a further term, in front of what follows
  step_piece : (ds : List (ℕ × ℤ)) (v : ℕ) (c : ℤ) (es : List (ℕ × ℤ)) (h : Linear) (rest : List ℕ) → IsNamed t v false → AreEntries (ds ++ (v, c) ∷ es) → are_written (ds ++ (v, c) ∷ []) ≡ true → is_written_number c ≡ true
      → Piece IsLoose rest (Goes (ds ++ (v, c) ∷ []) h) → ((after : List ℕ) → IsLoose after → IsLoose (rest ++ after)) → Piece IsLoose (next_sign c ++ (term_text t (v, c) ++ rest)) (Goes ds h)
  step_piece ds v (pos zero) es h rest n e w k more loose = absurd (entry-some ds (v, pos 0) es e refl)
  step_piece ds v (pos (suc k)) es h rest n e w wk more loose =
      go_piece names sum_sign (Product t m) operators.Plus refl (codes "+") plus_is (summed ds) (term v (pos (suc k))) (summed (ds ++ (v, pos (suc k)) ∷ [])) (terms.number h)
      (λ place. limited-to place (sum_of (summed ds) (term v (pos (suc k)))) (summed (ds ++ (v, pos (suc k)) ∷ [])) (sum-term ds v (pos (suc k)) es e) (writable (pos 0) (ds ++ (v, pos (suc k)) ∷ []) written_zero w))
      IsLoose IsLoose (codes " + ") (times_text (suc k) ++ variable_text t v) rest plus_piece (term_piece t m v k n (written_size (pos (suc k)) wk)) more loose
  step_piece ds v (negsuc k) es h rest n e w wk more loose =
      go_piece names sum_sign (Product t m) operators.Minus refl (codes "-") less_is (summed ds) (term v (pos (suc k))) (summed (ds ++ (v, negsuc k) ∷ [])) (terms.number h)
      (λ place. limited-to place (sum_of (summed ds) (negated (term v (pos (suc k))))) (summed (ds ++ (v, negsuc k) ∷ [])) (sum-term ds v (negsuc k) es e) (writable (pos 0) (ds ++ (v, negsuc k) ∷ []) written_zero w))
      IsLoose IsLoose (codes " - ") (times_text (suc k) ++ variable_text t v) rest less_piece (term_piece t m v k n (written_size (negsuc k) wk)) more loose

  rest_loose : (es : List (ℕ × ℤ)) (c : ℤ) (after : List ℕ) → IsLoose after → IsLoose ((more_terms t es ++ constant_text c) ++ after)
  rest_loose [] (pos zero) after l = l
  rest_loose [] (pos (suc n)) after l = refl
  rest_loose [] (negsuc n) after l = refl
  rest_loose (e ∷ es) c after l = sign-loose e.1 (term_text t e) (more_terms t es) (constant_text c) after

  more_piece : (ds es : List (ℕ × ℤ)) (c : ℤ) → AreNumbers t es → AreEntries (ds ++ es) → are_written (ds ++ es) ≡ true → is_written_number c ≡ true → Piece IsLoose (more_terms t es ++ constant_text c) (Goes ds (record { constant = c; entries = ds ++ es }))
  more_piece ds [] c n e w k =
      let all : ds ++ [] ≡ ds = append-nil ds in
      subst (λ (xs : List (ℕ × ℤ)). Piece IsLoose (constant_text c) (Goes ds (record { constant = c; entries = xs }))) (sym all) (constant_piece ds c (subst (λ (xs : List (ℕ × ℤ)). are_written xs ≡ true) all w) k)
  more_piece ds (x ∷ es) c n e w k =
      let line : (ds ++ x ∷ []) ++ es ≡ ds ++ x ∷ es = append_assoc ds (x ∷ []) es in
      let written : are_written ((ds ++ x ∷ []) ++ es) ≡ true = subst (λ (xs : List (ℕ × ℤ)). are_written xs ≡ true) (sym line) w in
      let parts = written-parts (ds ++ x ∷ []) es written in
      let own = written-parts ds (x ∷ es) w in
      let more : Piece IsLoose (more_terms t es ++ constant_text c) (Goes (ds ++ x ∷ []) (record { constant = c; entries = ds ++ x ∷ es })) =
      subst (λ (xs : List (ℕ × ℤ)). Piece IsLoose (more_terms t es ++ constant_text c) (Goes (ds ++ x ∷ []) (record { constant = c; entries = xs }))) line
      (more_piece (ds ++ x ∷ []) es c n.1 (subst AreEntries (sym line) e) written k) in
      rewritten IsLoose (Goes ds (record { constant = c; entries = ds ++ x ∷ es })) (next_sign x.1 ++ (term_text t x ++ (more_terms t es ++ constant_text c))) (((next_sign x.1 ++ term_text t x) ++ more_terms t es) ++ constant_text c)
      (sym (append_assoc (next_sign x.1 ++ term_text t x) (more_terms t es) (constant_text c) ∙ append_assoc (next_sign x.1) (term_text t x) (more_terms t es ++ constant_text c)))
      (step_piece ds x.0 x.1 es (record { constant = c; entries = ds ++ x ∷ es }) (more_terms t es ++ constant_text c) n.0 e parts.0 (both-true (is_written_number x.1) (are_written es) own.1).0 more (rest_loose es c))

  -- the first term
  first_piece : (v : ℕ) (c : ℤ) → IsNamed t v false → c ≢ pos 0 → is_written_number c ≡ true → Piece IsLoose (first_sign c ++ term_text t (v, c)) (Spells names (Product t m) (terms.number (term v c)))
  first_piece v (pos zero) n some w = absurd (some refl)
  first_piece v (pos (suc k)) n some w = term_piece t m v k n (written_size (pos (suc k)) w)
  first_piece v (negsuc k) n some w = minus_term_piece t m v k n (written_size (negsuc k) w)

  abbrev pub Sum : List Lexeme → Expr → Type 0
  Sum = IsSum true (Inside true (suc m))

  lone_number : (c : ℤ) → is_written_number c ≡ true → Piece IsLoose (signed_decimal c) (Spells names Sum (terms.number (linear.number c)))
  lone_number (pos n) w = lone_piece names sum_sign (Product t m) IsLoose (terms.number (linear.number (pos n))) (decimal n) (number_product n (written_size (pos n) w))
  lone_number (negsuc n) w =
      lone_piece names sum_sign (Product t m) IsLoose (terms.number (linear.number (negsuc n))) (codes "-" ++ decimal (suc n))
      (lone_piece names product_sign (Unary names m) IsLoose (terms.number (linear.number (negsuc n))) (codes "-" ++ decimal (suc n)) (minus_number t m n (written_size (negsuc n) w)))

  sum_of_entries : (c : ℤ) (es : List (ℕ × ℤ)) → AreNumbers t es → AreEntries es → are_written es ≡ true → is_written_number c ≡ true → Piece IsLoose (terms_text t es c) (Spells names Sum (terms.number (record { constant = c; entries = es })))
  sum_of_entries c [] n e w k = lone_number c k
  sum_of_entries c (x ∷ es) n e w k =
      let own = both-true (is_written_number x.1) (are_written es) w in
      rewritten IsLoose (Spells names Sum (terms.number (record { constant = c; entries = x ∷ es }))) ((first_sign x.1 ++ term_text t x) ++ (more_terms t es ++ constant_text c)) (((first_sign x.1 ++ term_text t x) ++ more_terms t es) ++ constant_text c)
      (sym (append_assoc (first_sign x.1 ++ term_text t x) (more_terms t es) (constant_text c)))
      (group_piece names sum_sign (Product t m) IsLoose IsLoose (terms.number (term x.0 x.1)) (terms.number (record { constant = c; entries = x ∷ es })) (first_sign x.1 ++ term_text t x) (more_terms t es ++ constant_text c)
      (first_piece x.0 x.1 n.0 e.1 own.0) (more_piece (x ∷ []) es c n.1 e w k) (rest_loose es c))

  pub sum_piece : (f : Linear) → IsPrintableSum t f → Piece IsLoose (sum_text t f) (Spells names Sum (terms.number f))
  sum_piece f h =
      let w = writable-parts f.constant f.entries h.written in
      sum_of_entries f.constant f.entries h.named h.linear.entries w.1 w.0
