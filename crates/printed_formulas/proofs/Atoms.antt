-- Names, numbers and truth values as expressions.
use Rattle.std.proofs.Common.{◌≡◌, ℕ, ◌≤◌, ◌^◌, Bool, true, false, List, [], ◌∷◌, ◌++◌, refl, ap, arith, codes, Ok, ℤ, pos, unsigned_abs}
use Rattle.std.specs.Fmt.{decimal}
use Rattle.std.proofs.lemmas.Bool.Decides.{nat_tests}
use Rattle.st_tokens.specs.declared.kind.TokenKind.TheVariants.{Name, Keyword, Numeral}
use Rattle.st_tokens.specs.declared.kind.Front.TheVariants.{Whole}
use Rattle.st_tokens.specs.Text.{front, value_of}
use Rattle.st_tokens.specs.Stream.{Lexeme}
use Rattle.st_reading.specs.Mark.{number}
use Rattle.st_reading.specs.Sign.{sign_of, declaring_word}
use Rattle.st_reading.specs.Reading.{label_of}
use Rattle.expression_parser.specs.declared.sign.Front.TheVariants as fronts
use Rattle.expression_parser.specs.Signs as parser
use Rattle.expression_parser.specs.ExpressionTree.{Expr, node, numeral, truth, name, at}
use Rattle.expression_parser.specs.Grammar.{IsAtom, a_numeral, a_truth, a_name, a_place}
use Rattle.expression_parser.specs.Reading.{Level}
use Rattle.st_linear.specs.Linear as linear
use Rattle.st_linear.specs.Linear.{Linear}
use Rattle.st_form.specs.Formula as forms
use Rattle.st_form.specs.Formula.{truth_value}
use Rattle.st_program.specs.Tree as terms
use Rattle.st_program.specs.Tree.{Term}
use Rattle.st_program.specs.Names as tables
use Rattle.st_program.specs.Groups.{is_written_number, are_written}
use Rattle.expression_typer.specs.Naming.{names_of}
use Rattle.expression_typer.specs.Scope.{Names}
use Rattle.expression_typer.specs.Written.{is_writable, limited}
use Rattle.expression_typer.specs.Typing.{typed_by, variable_term, named_by, placed_by}
use Rattle.expression_typer.specs.Answers.{◌>>=◌}
use Rattle.step_report.specs.Names.{variable_text, location_text}
use Rattle.printed_formulas.specs.Loose.{IsLoose}
use Rattle.printed_formulas.specs.Printable.{IsNamed, IsPlace}
use Rattle.printed_formulas.proofs.Pieces.{Anything, Piece, NoToken, OneToken, one_token, beside, seen_as, blank, token}
use Rattle.printed_formulas.proofs.Words.{name_piece, word_front}
use Rattle.printed_formulas.proofs.Numerals.{number_piece, number_value, digits_front, small}

-- tokens that spell an expression that is typed so
abbrev pub Spells : Names → (List Lexeme → Expr → Type 0) → Term → List Lexeme → Type 0
Spells s L x ts = (e : Expr) × L ts e × (typed_by s e ≡ Ok x)

-- numbers that texts write
pub written_zero : is_written_number (pos 0) ≡ true
unfolding is_written_number
written_zero = refl

pub written_size : (c : ℤ) → is_written_number c ≡ true → unsigned_abs c ≤ 2 ^ 30
unfolding is_written_number
written_size c h = grind (arith, nat_tests, h)

pub size_written : (c : ℤ) → unsigned_abs c ≤ 2 ^ 30 → is_written_number c ≡ true
unfolding is_written_number
size_written c h = grind (arith, nat_tests, h)

pub writable : (c : ℤ) (es : List (ℕ × ℤ)) → is_written_number c ≡ true → are_written es ≡ true → is_writable (record { constant = c; entries = es }) ≡ true
unfolding is_writable
writable c es h k = rw (h, k) refl

pub limited_ok : (place : ℕ) (f : Linear) → is_writable f ≡ true → limited place f ≡ Ok f
limited_ok place f h = rw h refl

sign_numeral : (n : ℕ) (ds : List ℕ) (start : ℕ) → value_of ds ≡ n → n ≤ 2 ^ 30 → parser.front true (sign_of (record { kind = Numeral; text = ds; start = start })) ≡ fronts.Numeral n
sign_numeral n ds start e h = rw (e, small n h) refl

module _ (s : Names) (down : Level → List Lexeme → Expr → Type 0) where
  numeral_spells : (n : ℕ) (ds : List ℕ) → value_of ds ≡ n → n ≤ 2 ^ 30 → (ts : List Lexeme) → OneToken Numeral ds ts → Spells s (IsAtom true down) (terms.number (linear.number (pos n))) ts
  numeral_spells n ds e h _ (one_token start) =
      let t : Lexeme = record { kind = Numeral; text = ds; start = start } in (
        node start (numeral n),
        a_numeral t n (sign_numeral n ds start e h),
        ap (λ r. r >>= λ f. Ok (terms.number f)) (limited_ok 0 (linear.number (pos n)) (writable (pos n) [] (size_written (pos n) h) refl)),
      )

  pub number_atom : (n : ℕ) → n ≤ 2 ^ 30 → Piece IsLoose (decimal n) (Spells s (IsAtom true down) (terms.number (linear.number (pos n))))
  number_atom n h =
      seen_as IsLoose (OneToken Numeral (decimal n)) (Spells s (IsAtom true down) (terms.number (linear.number (pos n)))) (decimal n)
      (numeral_spells n (decimal n) (number_value n h) h) (number_piece n h)

  zero_front : (after : List ℕ) → IsLoose after → front (codes "0" ++ after) ≡ Whole Numeral 1
  zero_front after l = digits_front (codes "0") after (omega arith) (omega arith, tt) (omega arith) l

  pub zero_atom : Piece IsLoose (codes "0") (Spells s (IsAtom true down) (terms.number (linear.number (pos 0))))
  zero_atom =
      seen_as IsLoose (OneToken Numeral (codes "0")) (Spells s (IsAtom true down) (terms.number (linear.number (pos 0)))) (codes "0")
      (numeral_spells 0 (codes "0") refl (omega arith)) (token IsLoose Numeral (codes "0") (omega arith) zero_front)

  true_spells : (ts : List Lexeme) → OneToken Keyword (codes "true") ts → Spells s (IsAtom true down) (terms.truth (truth_value true)) ts
  unfolding declaring_word number
  true_spells _ (one_token start) = (node start (truth true), a_truth (record { kind = Keyword; text = codes "true"; start = start }) true refl, refl)

  false_spells : (ts : List Lexeme) → OneToken Keyword (codes "false") ts → Spells s (IsAtom true down) (terms.truth (truth_value false)) ts
  unfolding declaring_word number
  false_spells _ (one_token start) = (node start (truth false), a_truth (record { kind = Keyword; text = codes "false"; start = start }) false refl, refl)

  pub true_atom : Piece IsLoose (codes "true") (Spells s (IsAtom true down) (terms.truth (truth_value true)))
  true_atom =
      seen_as IsLoose (OneToken Keyword (codes "true")) (Spells s (IsAtom true down) (terms.truth (truth_value true))) (codes "true") true_spells
      (token IsLoose Keyword (codes "true") (omega arith) (λ after l. word_front 116 (codes "rue") after refl (refl, (refl, (refl, tt))) l))

  pub false_atom : Piece IsLoose (codes "false") (Spells s (IsAtom true down) (terms.truth (truth_value false)))
  false_atom =
      seen_as IsLoose (OneToken Keyword (codes "false")) (Spells s (IsAtom true down) (terms.truth (truth_value false))) (codes "false") false_spells
      (token IsLoose Keyword (codes "false") (omega arith) (λ after l. word_front 102 (codes "alse") after refl (refl, (refl, (refl, (refl, tt)))) l))

-- the names of a table
module _ (t : tables.Names) (down : Level → List Lexeme → Expr → Type 0) where
  variable_spells : (v : ℕ) (b : Bool) → IsNamed t v b → (ts : List Lexeme) → OneToken Name (variable_text t v) ts → Spells (names_of t) (IsAtom true down) (variable_term (v, b)) ts
  variable_spells v b h _ (one_token start) =
      let u : Lexeme = record { kind = Name; text = variable_text t v; start = start } in
      (node start (name (label_of u)), a_name u refl, ap (named_by start) h.stands)

  pub variable_atom : (v : ℕ) (b : Bool) → IsNamed t v b → Piece IsLoose (variable_text t v) (Spells (names_of t) (IsAtom true down) (variable_term (v, b)))
  variable_atom v b h =
      seen_as IsLoose (OneToken Name (variable_text t v)) (Spells (names_of t) (IsAtom true down) (variable_term (v, b))) (variable_text t v)
      (variable_spells v b h) (name_piece (variable_text t v) h.word)

  -- "at" and a label
  place_spells : (l : ℕ) → IsPlace t l → (a b : List Lexeme) → OneToken Keyword (codes "at") a → OneToken Name (location_text t l) b → Spells (names_of t) (IsAtom true down) (terms.truth (forms.at l)) (a ++ b)
  unfolding declaring_word number
  place_spells l h _ _ (one_token start) (one_token next) =
      let u : Lexeme = record { kind = Name; text = location_text t l; start = next } in
      (node start (at (label_of u)), a_place (record { kind = Keyword; text = codes "at"; start = start }) u refl refl, ap (placed_by next) h.stands)

  at_piece : Piece Anything (codes "at ") (OneToken Keyword (codes "at"))
  at_piece =
      beside IsLoose Anything (OneToken Keyword (codes "at")) NoToken (OneToken Keyword (codes "at")) (codes "at") (codes " ")
      (token IsLoose Keyword (codes "at") (omega arith) (λ after l. word_front 97 (codes "t") after refl (refl, tt) l)) blank (λ after p. refl) one_alone
    where
      one_alone : (a b : List Lexeme) → OneToken Keyword (codes "at") a → NoToken b → OneToken Keyword (codes "at") (a ++ b)
      one_alone _ [] (one_token start) n = one_token start
      one_alone a (u ∷ b) o n = elim n [ ]

  pub place_atom : (l : ℕ) → IsPlace t l → Piece IsLoose (codes "at " ++ location_text t l) (Spells (names_of t) (IsAtom true down) (terms.truth (forms.at l)))
  place_atom l h =
      beside Anything IsLoose (OneToken Keyword (codes "at")) (OneToken Name (location_text t l)) (Spells (names_of t) (IsAtom true down) (terms.truth (forms.at l)))
      (codes "at ") (location_text t l) at_piece (name_piece (location_text t l) h.word) (λ after l. tt) (place_spells l h)
