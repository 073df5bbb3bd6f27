-- Pieces of a text, and the tokens of one behind another.
use Rattle.std.proofs.Common.{◌≡◌, ℕ, ◌-◌, ◌<◌, List, [], ◌∷◌, ◌++◌, drop, length, refl, sym, ap, subst, ◌∙◌, append_assoc}
use Rattle.std.proofs.Math.Seq.{drop-append_seam, take-append_seam}
use Rattle.st_tokens.specs.declared.kind.TokenKind.{TokenKind}
use Rattle.st_tokens.specs.declared.kind.Front.TheVariants.{Whole}
use Rattle.st_tokens.specs.Text.{front}
use Rattle.st_tokens.specs.Stream.{◌++>◌, Lexeme, Stream, more, lex}
use Rattle.st_tokens.proofs.Lexing.{lex_whole}
use Rattle.st_reading.proofs.Streams.{append_stream}

-- anything may follow
abbrev pub Anything : List ℕ → Type 0
Anything after = Unit {0}

-- In front of what may follow, the text has tokens of the language, and behind them are those of what follows.
abbrev pub Piece : (List ℕ → Type 0) → List ℕ → (List Lexeme → Type 0) → Type 0
Piece P text L = (end : ℕ) (after : List ℕ) → P after → (ts : List Lexeme) × (lex end 0 (text ++ after) ≡ ts ++> lex end 0 after) × L ts

pub data NoToken : List Lexeme → Type 0 where
  no_token : NoToken []

pub data OneToken (kind : TokenKind) (text : List ℕ) : List Lexeme → Type 0 where
  one_token : (start : ℕ) → OneToken kind text (record { kind = kind; text = text; start = start } ∷ [])

-- the tokens of both, and what they say together
abbrev pub Joins : (List Lexeme → Type 0) → (List Lexeme → Type 0) → (List Lexeme → Type 0) → Type 0
Joins L M N = (a b : List Lexeme) → L a → M b → N (a ++ b)

module _ (P Q : List ℕ → Type 0) (L M N : List Lexeme → Type 0) where
  pub beside : (a b : List ℕ) → Piece P a L → Piece Q b M → ((after : List ℕ) → Q after → P (b ++ after)) → Joins L M N → Piece Q (a ++ b) N
  beside a b first second follow join end after q =
      let y = second end after q in
      let x = first end (b ++ after) (follow after q) in (
        x.0 ++ y.0,
        ap (lex end 0) (append_assoc a b after) ∙ x.1 ∙ ap (λ s. x.0 ++> s) y.1 ∙ sym (append_stream x.0 y.0 (lex end 0 after)),
        join x.0 y.0 x.2 y.2,
      )

module _ (P : List ℕ → Type 0) (L M : List Lexeme → Type 0) where
  pub seen_as : (text : List ℕ) → ((ts : List Lexeme) → L ts → M ts) → Piece P text L → Piece P text M
  seen_as text view piece end after p = let x = piece end after p in (x.0, x.1, view x.0 x.2)

module _ (P : List ℕ → Type 0) (L : List Lexeme → Type 0) where
  pub rewritten : (text other : List ℕ) → text ≡ other → Piece P text L → Piece P other L
  rewritten text other e piece = subst (λ (t : List ℕ). Piece P t L) e piece

  -- where less may follow
  pub narrowed : (Q : List ℕ → Type 0) (text : List ℕ) → ((after : List ℕ) → Q after → P after) → Piece P text L → Piece Q text L
  narrowed Q text h piece end after q = piece end after (h after q)

-- no byte, and a blank
pub nothing : (P : List ℕ → Type 0) → Piece P [] NoToken
nothing P end after p = ([], refl, no_token)

pub blank : Piece Anything (32 ∷ []) NoToken
unfolding lex
blank end after p = ([], refl, no_token)

-- one token
pub token : (P : List ℕ → Type 0) (kind : TokenKind) (text : List ℕ) → 0 < length text → ((after : List ℕ) → P after → front (text ++ after) ≡ Whole kind (length text)) → Piece P text (OneToken kind text)
token P kind text some there end after p =
    let start : ℕ = end - length (text ++ after) in
    let behind : Stream = lex end 0 (drop (length text) (text ++ after)) in (
      record { kind = kind; text = text; start = start } ∷ [],
      lex_whole end (length text) kind (text ++ after) (sym (there after p)) some
          ∙ ap (λ (t : List ℕ). more (record { kind = kind; text = t; start = start }) behind) (take-append_seam text after)
          ∙ ap (λ (r : List ℕ). more (record { kind = kind; text = text; start = start }) (lex end 0 r)) (drop-append_seam text after),
      one_token start,
    )
