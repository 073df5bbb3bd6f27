-- Terms of sums: a variable with its coefficient.
use Rattle.std.proofs.Common.{◌≡◌, ◌≢◌, ℕ, zero, suc, ◌<◌, ◌≤◌, ◌^◌, Bool, true, false, cond, ◌==◌, List, [], ◌∷◌, ◌++◌, length, refl, sym, ap, subst, ◌∙◌, arith, codes, Some, Ok, ℤ, pos, negsuc, ◌*ℤ◌, append_assoc}
use Rattle.std.specs.Fmt.{decimal}
use Rattle.std.proofs.lemmas.Int.{ints}
use Rattle.std.proofs.lemmas.Bool.Decides.{nat_tests}
use Rattle.std.proofs.lemmas.Fmt.{decimal_is_IsNumeral}
use Rattle.std.proofs.lemmas.Str.Parse.{digit_from_value}
use Rattle.std.specs.Str.Parse.{AllDigits}
use Rattle.st_tokens.specs.declared.kind.TokenKind.TheVariants.{Symbol}
use Rattle.st_tokens.specs.Stream.{Lexeme}
use Rattle.st_tokens.specs.Text.{is_letter}
use Rattle.st_reading.specs.Mark.{number}
use Rattle.st_reading.specs.Sign.{symbol_sign}
use Rattle.expression_parser.specs.declared.raw.Operator.TheVariants as operators
use Rattle.expression_parser.specs.ExpressionTree.{Expr, node, negative}
use Rattle.expression_parser.specs.Signs.{product_sign}
use Rattle.expression_parser.specs.Grammar.{Inside, IsAtom, IsUnary, minus, plain, IsProduct}
use Rattle.st_linear.specs.Linear as linear
use Rattle.st_linear.specs.Linear.{Linear, scaled, variable, with_entry}
use Rattle.st_program.specs.Names as tables
use Rattle.st_program.specs.Tree as terms
use Rattle.st_program.specs.Tree.{Term}
use Rattle.st_program.specs.Groups.{is_written_number}
use Rattle.expression_typer.specs.Naming.{names_of}
use Rattle.expression_typer.specs.Scope.{Names}
use Rattle.expression_typer.specs.Written.{is_writable}
use Rattle.expression_typer.specs.Typing.{combine}
use Rattle.expression_typer.specs.Answers.{◌>>=◌}
use Rattle.step_report.specs.Names.{variable_text}
use Rattle.step_report.specs.Sums.{times_text}
use Rattle.declared_names.specs.Words.{IsWord}
use Rattle.printed_formulas.specs.Loose.{IsLoose}
use Rattle.printed_formulas.specs.Printable.{IsNamed}
use Rattle.printed_formulas.proofs.Pieces.{Piece, OneToken, one_token, beside, seen_as, rewritten}
use Rattle.printed_formulas.proofs.Symbols.{IsTame, minus_piece, times_piece}
use Rattle.printed_formulas.proofs.Atoms.{Spells, number_atom, variable_atom, written_zero, size_written, writable, limited_ok}
use Rattle.printed_formulas.proofs.Operands.{group_piece, lone_piece, last_piece}

-- one variable with a coefficient
abbrev pub term : ℕ → ℤ → Linear
term v c = record { constant = pos 0; entries = (v, c) ∷ [] }

times-front : (c : ℤ) → pos 1 *ℤ c ≡ c
times-front (pos n) = omega (arith, ints)
times-front (negsuc n) = omega (arith, ints)

zero-times : (c : ℤ) → pos 0 *ℤ c ≡ pos 0
zero-times (pos n) = omega (arith, ints)
zero-times (negsuc n) = omega (arith, ints)

entry-kept : (v : ℕ) (c : ℤ) (es : List (ℕ × ℤ)) → c ≢ pos 0 → with_entry v c es ≡ (v, c) ∷ es
entry-kept v (pos zero) es h = absurd (h refl)
entry-kept v (pos (suc n)) es h = refl
entry-kept v (negsuc n) es h = refl

pub scaled-variable : (v : ℕ) (c : ℤ) → c ≢ pos 0 → scaled c (variable v) ≡ term v c
scaled-variable v c h = rw (times-front c, zero-times c) (ap (λ (es : List (ℕ × ℤ)). record { constant = pos 0; entries = es }) (entry-kept v c [] h))

term-writable : (v : ℕ) (c : ℤ) → is_written_number c ≡ true → is_writable (term v c) ≡ true
term-writable v c h = writable (pos 0) ((v, c) ∷ []) written_zero (rw h refl)

-- a number times a variable
times-typed : (v : ℕ) (c : ℤ) (place : ℕ) → c ≢ pos 0 → is_written_number c ≡ true → combine operators.Times place (linear.number c) (variable v) ≡ Ok (terms.number (term v c))
times-typed v c place some h = rw (scaled-variable v c some) (ap (λ r. r >>= λ f. Ok (terms.number f)) (limited_ok place (term v c) (term-writable v c h)))

-- a minus in front
negated-number : (k : ℕ) → scaled (negsuc 0) (linear.number (pos (suc k))) ≡ linear.number (negsuc k)
negated-number k = ap (λ (z : ℤ). linear.number z) (omega (arith, ints))

letter-tame : (b : ℕ) → is_letter b ≡ true → (b == 62) ≡ false
letter-tame b h = grind (arith, nat_tests, h)

pub word_tame : (name after : List ℕ) → IsWord name → IsTame (name ++ after)
word_tame [] after h = absurd h
word_tame (b ∷ bs) after h = letter-tame b h.0

digits_tame : (ds after : List ℕ) → 0 < length ds → AllDigits 10 ds → IsTame (ds ++ after)
digits_tame [] after some h = absurd (omega arith)
digits_tame (d ∷ ds) after some h = let r = digit_from_value d h.0 in grind (arith, nat_tests, r)

pub decimal_tame : (n : ℕ) (after : List ℕ) → n < 2 ^ 64 → IsTame (decimal n ++ after)
decimal_tame n after h = let k = decimal_is_IsNumeral n h in digits_tame (decimal n) after k.0.0 k.0.1

below : (n : ℕ) → n ≤ 2 ^ 30 → n < 2 ^ 64
below n h = omega (arith, h)

-- `places` are at hand, and there is one level more
module _ (s : Names) (m : ℕ) where
  abbrev pub Unary : List Lexeme → Expr → Type 0
  Unary = IsUnary true (Inside true (suc m))

  pub plain_piece : (x : Term) (text : List ℕ) → Piece IsLoose text (Spells s (IsAtom true (Inside true (suc m))) x) → Piece IsLoose text (Spells s Unary x)
  plain_piece x text piece = seen_as IsLoose (Spells s (IsAtom true (Inside true (suc m))) x) (Spells s Unary x) text (λ ts l. (l.0, plain ts l.0 l.1, l.2)) piece

  -- a minus in front of an operand
  minus_spells : (f g : Linear) → scaled (negsuc 0) f ≡ g → is_writable g ≡ true → (a b : List Lexeme) → OneToken Symbol (codes "-") a → Spells s (IsUnary true (Inside true m)) (terms.number f) b → Spells s Unary (terms.number g) (a ++ b)
  unfolding number
  minus_spells f g e w _ b (one_token start) l = (
    node start (negative start l.0),
    minus (record { kind = Symbol; text = codes "-"; start = start }) b l.0 refl l.1,
    rw (l.2, e) (ap (λ r. r >>= λ h. Ok (terms.number h)) (limited_ok start g w)),
  )

  pub minus_operand : (f g : Linear) (text : List ℕ) → scaled (negsuc 0) f ≡ g → is_writable g ≡ true → ((after : List ℕ) → IsTame (text ++ after)) → Piece IsLoose text (Spells s (IsUnary true (Inside true m)) (terms.number f)) → Piece IsLoose (codes "-" ++ text) (Spells s Unary (terms.number g))
  minus_operand f g text e w tame piece =
      beside IsTame IsLoose (OneToken Symbol (codes "-")) (Spells s (IsUnary true (Inside true m)) (terms.number f)) (Spells s Unary (terms.number g)) (codes "-") text minus_piece piece (λ after l. tame after) (minus_spells f g e w)

module _ (t : tables.Names) (m : ℕ) where
  abbrev names : Names
  names = names_of t

  abbrev pub Product : List Lexeme → Expr → Type 0
  Product = IsProduct true (Inside true (suc m))

  times_is : product_sign (symbol_sign (codes "*")) ≡ Some operators.Times
  unfolding number
  times_is = refl

  unary_variable : (n v : ℕ) → IsNamed t v false → Piece IsLoose (variable_text t v) (Spells names (IsUnary true (Inside true n)) (terms.number (variable v)))
  unary_variable n v h =
      seen_as IsLoose (Spells names (IsAtom true (Inside true n)) (terms.number (variable v))) (Spells names (IsUnary true (Inside true n)) (terms.number (variable v))) (variable_text t v)
      (λ ts l. (l.0, plain ts l.0 l.1, l.2)) (variable_atom t (Inside true n) v false h)

  pub unary_number : (n k : ℕ) → k ≤ 2 ^ 30 → Piece IsLoose (decimal k) (Spells names (IsUnary true (Inside true n)) (terms.number (linear.number (pos k))))
  unary_number n k h =
      seen_as IsLoose (Spells names (IsAtom true (Inside true n)) (terms.number (linear.number (pos k)))) (Spells names (IsUnary true (Inside true n)) (terms.number (linear.number (pos k)))) (decimal k)
      (λ ts l. (l.0, plain ts l.0 l.1, l.2)) (number_atom names (Inside true n) k h)

  -- a number, "*" and a variable
  times_variable : (v : ℕ) (c : ℤ) (text : List ℕ) → IsNamed t v false → c ≢ pos 0 → is_written_number c ≡ true → Piece IsLoose text (Spells names (Unary names m) (terms.number (linear.number c))) → Piece IsLoose (text ++ (codes "*" ++ variable_text t v)) (Spells names Product (terms.number (term v c)))
  times_variable v c text h some w first =
      group_piece names product_sign (Unary names m) IsLoose IsLoose (terms.number (linear.number c)) (terms.number (term v c)) text (codes "*" ++ variable_text t v) first
      (last_piece names product_sign (Unary names m) operators.Times refl (codes "*") times_is (linear.number c) (variable v) (term v c) (terms.number (term v c)) (λ place. times-typed v c place some w) IsLoose (codes "*") (variable_text t v) refl times_piece (unary_variable (suc m) v h))
      (λ after l. refl)

  -- a positive coefficient
  pub term_piece : (v k : ℕ) → IsNamed t v false → suc k ≤ 2 ^ 30 → Piece IsLoose (times_text (suc k) ++ variable_text t v) (Spells names Product (terms.number (term v (pos (suc k)))))
  term_piece v k h le = by_test (suc k == 1) refl
    where
      Goal : List ℕ → Type 0
      Goal text = Piece IsLoose text (Spells names Product (terms.number (term v (pos (suc k)))))

      by_test : (b : Bool) → (suc k == 1) ≡ b → Goal (cond b [] (decimal (suc k) ++ codes "*") ++ variable_text t v)
      by_test true e =
          let one : k ≡ 0 = grind (arith, nat_tests, e) in
          lone_piece names product_sign (Unary names m) IsLoose (terms.number (term v (pos (suc k)))) (variable_text t v)
          (subst (λ (j : ℕ). Piece IsLoose (variable_text t v) (Spells names (Unary names m) (terms.number (term v (pos (suc j)))))) (sym one) (unary_variable (suc m) v h))
      by_test false e =
          rewritten IsLoose (Spells names Product (terms.number (term v (pos (suc k))))) (decimal (suc k) ++ (codes "*" ++ variable_text t v)) ((decimal (suc k) ++ codes "*") ++ variable_text t v)
          (sym (append_assoc (decimal (suc k)) (codes "*") (variable_text t v)))
          (times_variable v (pos (suc k)) (decimal (suc k)) h (λ q. cc) (size_written (pos (suc k)) le) (unary_number (suc m) (suc k) le))

  pub minus_number : (j : ℕ) → suc j ≤ 2 ^ 30 → Piece IsLoose (codes "-" ++ decimal (suc j)) (Spells names (Unary names m) (terms.number (linear.number (negsuc j))))
  minus_number j g = minus_operand names m (linear.number (pos (suc j))) (linear.number (negsuc j)) (decimal (suc j)) (negated-number j) (writable (negsuc j) [] (size_written (negsuc j) g) refl) (λ after. decimal_tame (suc j) after (below (suc j) g)) (unary_number m (suc j) g)

  -- a negative one
  pub minus_term_piece : (v k : ℕ) → IsNamed t v false → suc k ≤ 2 ^ 30 → Piece IsLoose (codes "-" ++ (times_text (suc k) ++ variable_text t v)) (Spells names Product (terms.number (term v (negsuc k))))
  minus_term_piece v k h le = by_test (suc k == 1) refl
    where
      Goal : List ℕ → Type 0
      Goal text = Piece IsLoose text (Spells names Product (terms.number (term v (negsuc k))))

      written : is_written_number (negsuc k) ≡ true
      written = size_written (negsuc k) le

      by_test : (b : Bool) → (suc k == 1) ≡ b → Goal (codes "-" ++ (cond b [] (decimal (suc k) ++ codes "*") ++ variable_text t v))
      by_test true e =
          let one : k ≡ 0 = grind (arith, nat_tests, e) in
          let is : scaled (negsuc 0) (variable v) ≡ term v (negsuc k) = scaled-variable v (negsuc 0) (λ q. cc) ∙ ap (λ (j : ℕ). term v (negsuc j)) (sym one) in
          lone_piece names product_sign (Unary names m) IsLoose (terms.number (term v (negsuc k))) (codes "-" ++ variable_text t v)
          (minus_operand names m (variable v) (term v (negsuc k)) (variable_text t v) is (term-writable v (negsuc k) written) (λ after. word_tame (variable_text t v) after h.word) (unary_variable m v h))
      by_test false e =
          rewritten IsLoose (Spells names Product (terms.number (term v (negsuc k)))) ((codes "-" ++ decimal (suc k)) ++ (codes "*" ++ variable_text t v)) (codes "-" ++ ((decimal (suc k) ++ codes "*") ++ variable_text t v))
          (ap (λ (u : List ℕ). codes "-" ++ u) (sym (append_assoc (decimal (suc k)) (codes "*") (variable_text t v))))
          (times_variable v (negsuc k) (codes "-" ++ decimal (suc k)) h (λ q. cc) written (minus_number k le))
