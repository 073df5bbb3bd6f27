-- Comparisons with 0 as they are printed.
use Rattle.std.proofs.Common.{◌≡◌, ℕ, suc, true, false, List, [], ◌∷◌, ◌++◌, refl, sym, ap, subst, ◌∙◌, arith, codes, Some, Ok, ℤ, pos, ◌+ℤ◌}
use Rattle.std.proofs.lemmas.Int.{ints}
use Rattle.st_tokens.specs.declared.kind.TokenKind.TheVariants.{Symbol}
use Rattle.st_tokens.specs.Stream.{Lexeme}
use Rattle.st_reading.specs.Mark.{number}
use Rattle.st_reading.specs.Sign.{symbol_sign}
use Rattle.expression_parser.specs.declared.raw.Operator.{Operator}
use Rattle.expression_parser.specs.declared.raw.Operator.TheVariants as operators
use Rattle.expression_parser.specs.ExpressionTree.{Expr, joined}
use Rattle.expression_parser.specs.Signs.{sum_sign, product_sign, comparison_sign}
use Rattle.expression_parser.specs.Grammar.{Inside, IsAtom, IsComparison, sum, compare}
use Rattle.st_linear.specs.Linear as linear
use Rattle.st_linear.specs.Linear.{Linear, IsLinear, sum_of, fitting}
use Rattle.st_linear.specs.Simple.{negated}
use Rattle.st_form.specs.Formula.{row, equal}
use Rattle.st_program.specs.Names as tables
use Rattle.st_program.specs.Tree as terms
use Rattle.st_program.specs.Tree.{Term}
use Rattle.expression_typer.specs.Naming.{names_of}
use Rattle.expression_typer.specs.Scope.{Names}
use Rattle.expression_typer.specs.Written.{difference, fitted_to}
use Rattle.expression_typer.specs.Typing.{combine, is_implication}
use Rattle.expression_typer.specs.Answers.{◌>>=◌}
use Rattle.step_report.specs.Sums.{sum_text}
use Rattle.printed_formulas.specs.Loose.{IsLoose}
use Rattle.printed_formulas.specs.Printable.{IsPrintableSum}
use Rattle.printed_formulas.proofs.Pieces.{Anything, Piece, OneToken, one_token, beside, seen_as}
use Rattle.printed_formulas.proofs.Symbols.{least_piece, equal_piece}
use Rattle.printed_formulas.proofs.Atoms.{Spells, zero_atom}
use Rattle.printed_formulas.proofs.Operands.{joined_typed, lone_piece}
use Rattle.printed_formulas.proofs.Terms.{Product, Unary, plain_piece}
use Rattle.printed_formulas.proofs.Sums.{Sum, sum_piece, joined-none}

less-none : (c : ℤ) (es : List (ℕ × ℤ)) → sum_of (record { constant = c; entries = es }) (negated (linear.number (pos 0))) ≡ record { constant = c; entries = es }
less-none c es =
    let e : c +ℤ pos 0 ≡ c = omega (arith, ints) in
    rw e (ap (λ (xs : List (ℕ × ℤ)). record { constant = c; entries = xs }) (joined-none es))

fitting-is : (f : Linear) → IsLinear f → fitting f ≡ Some f
unfolding fitting
fitting-is f h = rw (h.constant_small, h.entries_small) refl

pub less-zero : (place : ℕ) (f : Linear) → IsLinear f → difference place f (linear.number (pos 0)) ≡ Ok f
less-zero place f h = ap (λ (g : Linear). fitted_to place (fitting g)) (less-none f.constant f.entries) ∙ ap (fitted_to place) (fitting-is f h)

least_is : comparison_sign (symbol_sign (codes ">=")) ≡ Some operators.AtLeast
unfolding number
least_is = refl

equal_is : comparison_sign (symbol_sign (codes "=")) ≡ Some operators.Equal
unfolding number
equal_is = refl

module _ (t : tables.Names) (m : ℕ) where
  abbrev names : Names
  names = names_of t

  abbrev pub Comparison : List Lexeme → Expr → Type 0
  Comparison = IsComparison true (Inside true (suc m))

  zero_sum : Piece IsLoose (codes "0") (Spells names (Sum t m) (terms.number (linear.number (pos 0))))
  zero_sum =
      lone_piece names sum_sign (Product t m) IsLoose (terms.number (linear.number (pos 0))) (codes "0")
      (lone_piece names product_sign (Unary names m) IsLoose (terms.number (linear.number (pos 0))) (codes "0") (plain_piece names m (terms.number (linear.number (pos 0))) (codes "0") (zero_atom names (Inside true (suc m)))))

  -- a symbol, and 0
  abbrev Against : List ℕ → List Lexeme → Type 0
  Against symbol ts = (start : ℕ) × (b : List Lexeme) × (ts ≡ record { kind = Symbol; text = symbol; start = start } ∷ b) × Spells names (Sum t m) (terms.number (linear.number (pos 0))) b

  against : (symbol : List ℕ) (a b : List Lexeme) → OneToken Symbol symbol a → Spells names (Sum t m) (terms.number (linear.number (pos 0))) b → Against symbol (a ++ b)
  against symbol _ b (one_token start) l = (start, b, refl, l)

  module _ (o : Operator) (symbol : List ℕ) (is : comparison_sign (symbol_sign symbol) ≡ Some o) (plain : is_implication o ≡ false) (f : Linear) (z : Term) (both : (place : ℕ) → combine o place f (linear.number (pos 0)) ≡ Ok z) where
    compared : (a d : List Lexeme) → Spells names (Sum t m) (terms.number f) a → Against symbol d → Spells names Comparison z (a ++ d)
    compared a d l r =
        let start = r.0 in
        let b = r.1 in
        let y : Spells names (Sum t m) (terms.number (linear.number (pos 0))) b = r.3 in
        subst (λ (us : List Lexeme). Spells names Comparison z (a ++ us)) (sym r.2) (
          joined o start l.0 y.0,
          compare a b (record { kind = Symbol; text = symbol; start = start }) o l.0 y.0 l.1 is y.1,
          joined_typed names o start l.0 y.0 f (linear.number (pos 0)) z plain l.2 y.2 (both start),
        )

    comparison_piece : (text sign : List ℕ) → Piece IsLoose text (Spells names (Sum t m) (terms.number f)) → Piece Anything sign (OneToken Symbol symbol) → ((after : List ℕ) → IsLoose (sign ++ after)) → Piece IsLoose (text ++ (sign ++ codes "0")) (Spells names Comparison z)
    comparison_piece text sign first second loose =
        beside IsLoose IsLoose (Spells names (Sum t m) (terms.number f)) (Against symbol) (Spells names Comparison z) text (sign ++ codes "0") first
        (beside Anything IsLoose (OneToken Symbol symbol) (Spells names (Sum t m) (terms.number (linear.number (pos 0)))) (Against symbol) sign (codes "0") second zero_sum (λ after l. tt) (against symbol))
        (λ after l. follow sign after (loose (codes "0" ++ after))) compared
      where
        follow : (xs after : List ℕ) → IsLoose (xs ++ (codes "0" ++ after)) → IsLoose ((xs ++ codes "0") ++ after)
        follow [] after h = h
        follow (x ∷ xs) after h = h

  pub row_piece : (f : Linear) → IsPrintableSum t f → Piece IsLoose (sum_text t f ++ codes " >= 0") (Spells names Comparison (terms.truth (row f)))
  row_piece f h =
      comparison_piece operators.AtLeast (codes ">=") least_is refl f (terms.truth (row f)) (λ place. ap (λ r. r >>= λ g. Ok (terms.truth (row g))) (less-zero place f h.linear))
      (sum_text t f) (codes " >= ") (sum_piece t m f h) least_piece (λ after. refl)

  pub equal_piece_of : (f : Linear) → IsPrintableSum t f → Piece IsLoose (sum_text t f ++ codes " = 0") (Spells names Comparison (terms.truth (equal f)))
  equal_piece_of f h =
      comparison_piece operators.Equal (codes "=") equal_is refl f (terms.truth (equal f)) (λ place. ap (λ r. r >>= λ g. Ok (terms.truth (equal g))) (less-zero place f h.linear))
      (sum_text t f) (codes " = ") (sum_piece t m f h) equal_piece (λ after. refl)

  -- an operand alone
  pub atom_comparison : (x : Term) (text : List ℕ) → Piece IsLoose text (Spells names (IsAtom true (Inside true (suc m))) x) → Piece IsLoose text (Spells names Comparison x)
  atom_comparison x text piece =
      seen_as IsLoose (Spells names (Sum t m) x) (Spells names Comparison x) text (λ ts l. (l.0, sum ts l.0 l.1, l.2))
      (lone_piece names sum_sign (Product t m) IsLoose x text (lone_piece names product_sign (Unary names m) IsLoose x text (plain_piece names m x text piece)))
