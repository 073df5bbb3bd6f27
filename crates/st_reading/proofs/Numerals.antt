-- The number of a numeral is at most 2^30.
use Rattle.std.proofs.Common.{◌≡◌, ℕ, ◌^◌, ◌≤◌, Bool, true, false, nat_lt, if◌then◌else◌, List, Option, Some, None, Ok, Err, refl, ap, subst, arith}
use Rattle.std.specs.Prelude.{IfSome}
use Rattle.std.proofs.lemmas.Bool.Decides.{nat_tests}
use Rattle.st_tokens.specs.declared.kind.TokenKind.{TokenKind}
use Rattle.st_tokens.specs.declared.kind.TokenKind.TheVariants as tokens
use Rattle.st_tokens.specs.Text.{value_of}
use Rattle.st_tokens.specs.Stream.{Stream, ends, breaks, more, behind}
use Rattle.st_reading.specs.declared.mark.Mark.{Mark}
use Rattle.st_reading.specs.declared.sign.Sign.{Sign}
use Rattle.st_reading.specs.declared.sign.Sign.TheVariants as signs
use Rattle.st_reading.specs.Sign.{symbol_mark, word_mark, marked, kind_sign}
use Rattle.st_reading.specs.Reading.{Read, ahead, place_of, refusal, on_operator}
use Rattle.st_reading.specs.Breaches.{Breach, numeral_in, numeral_of}

abbrev pub Small : Sign → Type 0
Small g = IfSome (numeral_in g) (λ n. n ≤ 2 ^ 30)

of_mark : (o : Option Mark) → Small (marked o)
of_mark None = tt
of_mark (Some m) = tt

not_less : (m n : ℕ) → nat_lt m n ≡ false → n ≤ m
not_less m n h = grind (arith, nat_tests)

bounded : (v : ℕ) (b : Bool) → nat_lt (2 ^ 30) v ≡ b → Small (if b then signs.Other else signs.Numeral v)
bounded v true e = tt
bounded v false e = not_less (2 ^ 30) v e

token : (kind : TokenKind) (s : List ℕ) → Small (kind_sign kind s)
token tokens.Name s = tt
token tokens.Keyword s = of_mark (word_mark s)
token tokens.Symbol s = of_mark (symbol_mark s)
token tokens.Numeral s = bounded (value_of s) (nat_lt (2 ^ 30) (value_of s)) refl

pub ahead_small : (s : Stream) → Small (ahead s)
ahead_small (ends place) = tt
ahead_small (breaks f) = tt
ahead_small (more t s) = token t.kind t.text

pub numeral_within : (s : Stream) (n : ℕ) → numeral_in (ahead s) ≡ Some n → n ≤ 2 ^ 30
numeral_within s n h = at_sign (numeral_in (ahead s)) (ahead_small s) h
  where
    at_sign : (o : Option ℕ) → IfSome o (λ m. m ≤ 2 ^ 30) → o ≡ Some n → n ≤ 2 ^ 30
    at_sign None k h = absurd cc
    at_sign (Some m) k h = let e : m ≡ n = cc in subst (λ x. x ≤ 2 ^ 30) e k

pub numeral_small : (s : Stream) (n : ℕ × ℕ) (rest : Stream) → numeral_of s ≡ Ok (n, rest) → n.0 ≤ 2 ^ 30
unfolding numeral_of
numeral_small s n rest h = at_sign (numeral_in (ahead s)) (ahead_small s) h
  where
    at_sign : (o : Option ℕ) → IfSome o (λ m. m ≤ 2 ^ 30) → on_operator {A = Read Breach (ℕ × ℕ)} o (Err (refusal s)) (λ m. Ok ((m, place_of s), behind s)) ≡ Ok (n, rest) → n.0 ≤ 2 ^ 30
    at_sign None k h = absurd cc
    at_sign (Some m) k h = let e : ((m, place_of s), behind s) ≡ (n, rest) = cc in subst (λ x. x ≤ 2 ^ 30) (ap (λ (p : (ℕ × ℕ) × Stream). p.0.0) e) k
