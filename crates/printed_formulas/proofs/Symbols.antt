-- Symbols as tokens.
use Rattle.std.proofs.Common.{◌≡◌, ℕ, false, ◌==◌, List, [], ◌∷◌, ◌++◌, refl, sym, subst, arith, codes}
use Rattle.st_tokens.specs.declared.kind.TokenKind.TheVariants.{Symbol}
use Rattle.st_tokens.specs.declared.kind.Front.TheVariants.{Whole}
use Rattle.st_tokens.specs.Text.{front}
use Rattle.st_tokens.specs.Stream.{Lexeme}
use Rattle.printed_formulas.proofs.Pieces.{Anything, Piece, NoToken, no_token, OneToken, one_token, beside, blank, token}

-- symbols that no symbol goes on with
open_front : (after : List ℕ) → front (codes "(" ++ after) ≡ Whole Symbol 1
open_front [] = refl
open_front (b ∷ []) = refl
open_front (b ∷ c ∷ after) = refl

close_front : (after : List ℕ) → front (codes ")" ++ after) ≡ Whole Symbol 1
close_front [] = refl
close_front (b ∷ []) = refl
close_front (b ∷ c ∷ after) = refl

not_front : (after : List ℕ) → front (codes "~" ++ after) ≡ Whole Symbol 1
not_front [] = refl
not_front (b ∷ []) = refl
not_front (b ∷ c ∷ after) = refl

times_front : (after : List ℕ) → front (codes "*" ++ after) ≡ Whole Symbol 1
times_front [] = refl
times_front (b ∷ []) = refl
times_front (b ∷ c ∷ after) = refl

end_front : (after : List ℕ) → front (codes ";" ++ after) ≡ Whole Symbol 1
end_front [] = refl
end_front (b ∷ []) = refl
end_front (b ∷ c ∷ after) = refl

and_front : (after : List ℕ) → front (codes "/\\" ++ after) ≡ Whole Symbol 2
and_front [] = refl
and_front (c ∷ after) = refl

or_front : (after : List ℕ) → front (codes "\\/" ++ after) ≡ Whole Symbol 2
or_front [] = refl
or_front (c ∷ after) = refl

least_front : (after : List ℕ) → front (codes ">=" ++ after) ≡ Whole Symbol 2
least_front [] = refl
least_front (c ∷ after) = refl

-- symbols that a blank stands behind
abbrev pub IsSpaced : List ℕ → Type 0
IsSpaced [] = ⊥
IsSpaced (b ∷ bs) = b ≡ 32

equal_front : (after : List ℕ) → IsSpaced after → front (codes "=" ++ after) ≡ Whole Symbol 1
equal_front [] h = absurd h
equal_front (b ∷ []) h = subst (λ (x : ℕ). front (61 ∷ x ∷ []) ≡ Whole Symbol 1) (sym h) refl
equal_front (b ∷ c ∷ after) h = subst (λ (x : ℕ). front (61 ∷ x ∷ c ∷ after) ≡ Whole Symbol 1) (sym h) refl

plus_front : (after : List ℕ) → front (codes "+" ++ after) ≡ Whole Symbol 1
plus_front [] = refl
plus_front (b ∷ []) = refl
plus_front (b ∷ c ∷ after) = refl

colon_front : (after : List ℕ) → IsSpaced after → front (codes ":" ++ after) ≡ Whole Symbol 1
colon_front [] h = absurd h
colon_front (b ∷ []) h = subst (λ (x : ℕ). front (58 ∷ x ∷ []) ≡ Whole Symbol 1) (sym h) refl
colon_front (b ∷ c ∷ after) h = subst (λ (x : ℕ). front (58 ∷ x ∷ c ∷ after) ≡ Whole Symbol 1) (sym h) refl

-- a minus is no arrow where no `>` follows
abbrev pub IsTame : List ℕ → Type 0
IsTame [] = Unit {0}
IsTame (b ∷ bs) = (b == 62) ≡ false

minus_front : (after : List ℕ) → IsTame after → front (codes "-" ++ after) ≡ Whole Symbol 1
minus_front [] h = refl
minus_front (b ∷ []) h = rw h refl
minus_front (b ∷ c ∷ after) h = rw h refl

pub open_piece : Piece Anything (codes "(") (OneToken Symbol (codes "("))
open_piece = token Anything Symbol (codes "(") (omega arith) (λ after p. open_front after)

pub close_piece : Piece Anything (codes ")") (OneToken Symbol (codes ")"))
close_piece = token Anything Symbol (codes ")") (omega arith) (λ after p. close_front after)

pub not_piece : Piece Anything (codes "~") (OneToken Symbol (codes "~"))
not_piece = token Anything Symbol (codes "~") (omega arith) (λ after p. not_front after)

pub times_piece : Piece Anything (codes "*") (OneToken Symbol (codes "*"))
times_piece = token Anything Symbol (codes "*") (omega arith) (λ after p. times_front after)

pub end_piece : Piece Anything (codes ";") (OneToken Symbol (codes ";"))
end_piece = token Anything Symbol (codes ";") (omega arith) (λ after p. end_front after)

pub minus_piece : Piece IsTame (codes "-") (OneToken Symbol (codes "-"))
minus_piece = token IsTame Symbol (codes "-") (omega arith) minus_front

-- a symbol with a blank behind it, and with blanks on both sides
behind_none : (L : List Lexeme → Type 0) (a b : List Lexeme) → NoToken a → L b → L (a ++ b)
behind_none L [] b no_token l = l
behind_none L (t ∷ a) b n l = elim n [ ]

one_alone : (text : List ℕ) (a b : List Lexeme) → OneToken Symbol text a → NoToken b → OneToken Symbol text (a ++ b)
one_alone text _ [] (one_token start) no_token = one_token start
one_alone text a (t ∷ b) o n = elim n [ ]

spaced : (text : List ℕ) → Piece IsSpaced text (OneToken Symbol text) → Piece Anything (text ++ 32 ∷ []) (OneToken Symbol text)
spaced text piece = beside IsSpaced Anything (OneToken Symbol text) NoToken (OneToken Symbol text) text (32 ∷ []) piece blank (λ after p. refl) (one_alone text)

between : (text : List ℕ) → Piece IsSpaced text (OneToken Symbol text) → Piece Anything (32 ∷ text ++ 32 ∷ []) (OneToken Symbol text)
between text piece =
    beside Anything Anything NoToken (OneToken Symbol text) (OneToken Symbol text) (32 ∷ []) (text ++ 32 ∷ []) blank (spaced text piece) (λ after p. tt) (behind_none (OneToken Symbol text))

pub colon_piece : Piece Anything (codes ": ") (OneToken Symbol (codes ":"))
colon_piece = spaced (codes ":") (token IsSpaced Symbol (codes ":") (omega arith) colon_front)

pub and_piece : Piece Anything (codes " /\\ ") (OneToken Symbol (codes "/\\"))
and_piece = between (codes "/\\") (token IsSpaced Symbol (codes "/\\") (omega arith) (λ after p. and_front after))

pub or_piece : Piece Anything (codes " \\/ ") (OneToken Symbol (codes "\\/"))
or_piece = between (codes "\\/") (token IsSpaced Symbol (codes "\\/") (omega arith) (λ after p. or_front after))

pub least_piece : Piece Anything (codes " >= ") (OneToken Symbol (codes ">="))
least_piece = between (codes ">=") (token IsSpaced Symbol (codes ">=") (omega arith) (λ after p. least_front after))

pub equal_piece : Piece Anything (codes " = ") (OneToken Symbol (codes "="))
equal_piece = between (codes "=") (token IsSpaced Symbol (codes "=") (omega arith) equal_front)

pub plus_piece : Piece Anything (codes " + ") (OneToken Symbol (codes "+"))
plus_piece = between (codes "+") (token IsSpaced Symbol (codes "+") (omega arith) (λ after p. plus_front after))

tame : (after : List ℕ) → IsSpaced after → IsTame after
tame [] h = tt
tame (b ∷ bs) h = subst (λ (x : ℕ). (x == 62) ≡ false) (sym h) refl

pub less_piece : Piece Anything (codes " - ") (OneToken Symbol (codes "-"))
less_piece = between (codes "-") (token IsSpaced Symbol (codes "-") (omega arith) (λ after h. minus_front after (tame after h)))
