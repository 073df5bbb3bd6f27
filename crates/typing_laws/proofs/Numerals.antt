-- Numerals of tokens are those that a text may have.
use Rattle.std.proofs.Common.{◌≡◌, ℕ, ◌≤◌, ◌^◌, Bool, true, false, cond, ◌&&◌, nat_lt, List, refl, arith}
use Rattle.std.proofs.lemmas.Bool.Decides.{nat_tests}
use Rattle.st_tokens.specs.declared.kind.TokenKind.{TokenKind}
use Rattle.st_tokens.specs.declared.kind.TokenKind.TheVariants as kinds
use Rattle.st_tokens.specs.Text.{value_of}
use Rattle.st_tokens.specs.Stream.{Lexeme}
use Rattle.st_reading.specs.declared.sign.Sign.{Sign}
use Rattle.st_reading.specs.declared.sign.Sign.TheVariants as signs
use Rattle.st_reading.specs.declared.mark.Mark.TheVariants as marks
use Rattle.st_reading.specs.Sign.{is, kind_sign, sign_of}
use Rattle.expression_parser.specs.declared.sign.Front.{Front}
use Rattle.expression_parser.specs.declared.sign.Front.TheVariants as fronts
use Rattle.expression_parser.specs.Signs.{front, front_mark}
use Rattle.expression_parser.specs.Grammar.{Fronts}
use Rattle.typing_laws.proofs.Signs as of_signs

abbrev SignFits : Sign → Type 0
SignFits (signs.Numeral n) = n ≤ 2 ^ 30
SignFits _ = Unit {0}

abbrev FrontFits : Front → Type 0
FrontFits (fronts.Numeral n) = n ≤ 2 ^ 30
FrontFits _ = Unit {0}

numeral_fits : (n : ℕ) → SignFits (cond (nat_lt (2 ^ 30) n) signs.Other (signs.Numeral n))
numeral_fits n = go (nat_lt (2 ^ 30) n) refl
  where
    go : (b : Bool) → nat_lt (2 ^ 30) n ≡ b → SignFits (cond b signs.Other (signs.Numeral n))
    go true e = tt
    go false e = grind (arith, nat_tests, e)

kind_fits : (k : TokenKind) (s : List ℕ) → SignFits (kind_sign k s)
kind_fits kinds.Name s = tt
kind_fits kinds.Keyword s = of_signs.keyword SignFits tt (λ m. tt) s
kind_fits kinds.Symbol s = of_signs.symbol SignFits tt (λ m. tt) s
kind_fits kinds.Numeral s = numeral_fits (value_of s)

choose : (c : Bool) (x y : Front) → FrontFits x → FrontFits y → FrontFits (cond c x y)
choose true x y h k = h
choose false x y h k = k

mark_fits : (places : Bool) (g : Sign) → FrontFits (front_mark places g)
mark_fits places g = choose (is g marks.True) _ _ tt (choose (is g marks.False) _ _ tt (choose (is g marks.Open) _ _ tt (choose (is g marks.Minus) _ _ tt (choose (is g marks.Not) _ _ tt (choose (is g marks.At && places) _ _ tt (tt))))))

front_fits : (places : Bool) (g : Sign) → SignFits g → FrontFits (front places g)
front_fits places (signs.Numeral n) h = h
front_fits places signs.Name h = tt
front_fits places (signs.Marked m) h = mark_fits places (signs.Marked m)
front_fits places signs.Nothing h = mark_fits places signs.Nothing
front_fits places signs.Other h = mark_fits places signs.Other

pub numeral_modest : (places : Bool) (n : ℕ) (t : Lexeme) → Fronts places (fronts.Numeral n) t → n ≤ 2 ^ 30
numeral_modest places n t e = go (front places (sign_of t)) e (front_fits places (sign_of t) (kind_fits t.kind t.text))
  where
    go : (x : Front) → x ≡ fronts.Numeral n → FrontFits x → n ≤ 2 ^ 30
    go x e h = rw e at h
