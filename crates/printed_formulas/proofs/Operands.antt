-- Operands with operators between them, grouped from the left, as they are printed.
use Rattle.std.proofs.Common.{◌≡◌, ℕ, false, List, [], ◌∷◌, ◌++◌, refl, sym, ap, subst, Some, Ok, Option, append-nil}
use Rattle.st_tokens.specs.declared.kind.TokenKind.TheVariants.{Symbol}
use Rattle.st_tokens.specs.Stream.{Lexeme}
use Rattle.st_reading.specs.declared.sign.Sign.{Sign}
use Rattle.st_reading.specs.Sign.{symbol_sign}
use Rattle.expression_parser.specs.declared.raw.Operator.{Operator}
use Rattle.expression_parser.specs.ExpressionTree.{Expr, joined}
use Rattle.expression_parser.specs.Grammar.{Behind, stop, go, IsGrouped, grouping}
use Rattle.st_linear.specs.Linear.{Linear}
use Rattle.st_program.specs.Tree as terms
use Rattle.st_program.specs.Tree.{Term}
use Rattle.expression_typer.specs.Scope.{Names}
use Rattle.expression_typer.specs.Typing.{typed_by, combine, is_implication}
use Rattle.printed_formulas.proofs.Pieces.{Anything, Piece, NoToken, OneToken, one_token, beside, seen_as, rewritten, nothing}
use Rattle.printed_formulas.proofs.Atoms.{Spells}

module _ (s : Names) where
  -- an operator between numbers
  pub joined_typed : (o : Operator) (place : ℕ) (x y : Expr) (f g : Linear) (z : Term) → is_implication o ≡ false → typed_by s x ≡ Ok (terms.number f) → typed_by s y ≡ Ok (terms.number g) → combine o place f g ≡ Ok z → typed_by s (joined o place x y) ≡ Ok z
  joined_typed o place x y f g z plain first second both = rw (plain, first, second) both

  -- behind an expression of the first meaning the tokens make one of the second
  abbrev pub GoesOn : (Sign → Option Operator) → (List Lexeme → Expr → Type 0) → Term → Term → List Lexeme → Type 0
  GoesOn op item f h ts = (x : Expr) → typed_by s x ≡ Ok f → (z : Expr) × Behind op item x ts z × (typed_by s z ≡ Ok h)

  module _ (op : Sign → Option Operator) (item : List Lexeme → Expr → Type 0) where
    stops : (f : Term) (ts : List Lexeme) → NoToken ts → GoesOn op item f f ts
    stops f [] n x e = (x, stop x, e)
    stops f (t ∷ ts) n x e = elim n [ ]

    pub stop_piece : (P : List ℕ → Type 0) (f : Term) → Piece P [] (GoesOn op item f f)
    stop_piece P f = seen_as P NoToken (GoesOn op item f f) [] (stops f) (nothing P)

    module _ (o : Operator) (plain : is_implication o ≡ false) (symbol : List ℕ) (is : op (symbol_sign symbol) ≡ Some o) (f g k : Linear) (h : Term) (both : (place : ℕ) → combine o place f g ≡ Ok (terms.number k)) where
      go_on : (a b c : List Lexeme) → OneToken Symbol symbol a → Spells s item (terms.number g) b → GoesOn op item (terms.number k) h c → GoesOn op item (terms.number f) h (a ++ (b ++ c))
      go_on _ b c (one_token start) l more x e =
          let t : Lexeme = record { kind = Symbol; text = symbol; start = start } in
          let y = l.0 in
          let r = more (joined o start x y) (joined_typed o start x y f g (terms.number k) plain e l.2 (both start)) in
          (r.0, go x t o b c y r.0 is l.1 r.1, r.2)

      abbrev Both : List Lexeme → Type 0
      Both ts = (b : List Lexeme) × (c : List Lexeme) × (ts ≡ b ++ c) × Spells s item (terms.number g) b × GoesOn op item (terms.number k) h c

      join_first : (a d : List Lexeme) → OneToken Symbol symbol a → Both d → GoesOn op item (terms.number f) h (a ++ d)
      join_first a d t r = subst (λ (us : List Lexeme). GoesOn op item (terms.number f) h (a ++ us)) (sym r.2) (go_on a r.0 r.1 t r.3 r.4)

      -- an operator, an operand, and what follows
      pub go_piece : (P Q : List ℕ → Type 0) (sign text rest : List ℕ) → Piece Anything sign (OneToken Symbol symbol) → Piece P text (Spells s item (terms.number g)) → Piece Q rest (GoesOn op item (terms.number k) h)
          → ((after : List ℕ) → Q after → P (rest ++ after)) → Piece Q (sign ++ (text ++ rest)) (GoesOn op item (terms.number f) h)
      go_piece P Q sign text rest first second third follow =
          beside Anything Q (OneToken Symbol symbol) Both (GoesOn op item (terms.number f) h) sign (text ++ rest) first
          (beside P Q (Spells s item (terms.number g)) (GoesOn op item (terms.number k) h) Both text rest second third follow (λ b c l m. (b, c, refl, l, m)))
          (λ after q. tt) join_first

      -- an operator, and the last operand
      pub last_piece : (P : List ℕ → Type 0) (sign text : List ℕ) → h ≡ terms.number k → Piece Anything sign (OneToken Symbol symbol) → Piece P text (Spells s item (terms.number g)) → Piece P (sign ++ text) (GoesOn op item (terms.number f) h)
      last_piece P sign text same first second =
          rewritten P (GoesOn op item (terms.number f) h) (sign ++ (text ++ [])) (sign ++ text) (ap (λ (u : List ℕ). sign ++ u) (append-nil text))
          (go_piece P P sign text [] first second (subst (λ (m : Term). Piece P [] (GoesOn op item (terms.number k) m)) (sym same) (stop_piece P (terms.number k))) (λ after p. p))

    -- the first operand, and what follows
    grouped : (f h : Term) (a b : List Lexeme) → Spells s item f a → GoesOn op item f h b → Spells s (IsGrouped op item) h (a ++ b)
    grouped f h a b l more = let r = more l.0 l.2 in (r.0, grouping a b l.0 r.0 l.1 r.1, r.2)

    pub group_piece : (P Q : List ℕ → Type 0) (f h : Term) (text rest : List ℕ) → Piece P text (Spells s item f) → Piece Q rest (GoesOn op item f h) → ((after : List ℕ) → Q after → P (rest ++ after)) → Piece Q (text ++ rest) (Spells s (IsGrouped op item) h)
    group_piece P Q f h text rest first second follow = beside P Q (Spells s item f) (GoesOn op item f h) (Spells s (IsGrouped op item) h) text rest first second follow (grouped f h)

    -- one operand
    lone : (f : Term) (ts : List Lexeme) → Spells s item f ts → Spells s (IsGrouped op item) f ts
    lone f ts l = (l.0, subst (λ (us : List Lexeme). IsGrouped op item us l.0) (append-nil ts) (grouping ts [] l.0 l.0 l.1 (stop l.0)), l.2)

    pub lone_piece : (P : List ℕ → Type 0) (f : Term) (text : List ℕ) → Piece P text (Spells s item f) → Piece P text (Spells s (IsGrouped op item) f)
    lone_piece P f text piece = seen_as P (Spells s item f) (Spells s (IsGrouped op item) f) text (lone f) piece
