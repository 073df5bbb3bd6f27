-- A text has at most as many tokens as bytes.
use Rattle.std.proofs.Common.{ℕ, zero, suc, pred, ◌≤◌, List, [], ◌∷◌, length, arith}
use Rattle.st_tokens.specs.declared.kind.Front.{Front}
use Rattle.st_tokens.specs.declared.kind.Front.TheVariants.{Blank, Whole, Bad, Long}
use Rattle.st_tokens.specs.Text.{front_at}
use Rattle.st_tokens.specs.Stream.{Stream, lex, begin, text_stream}
use Rattle.st_reading.specs.Reading.{size}

begin_size : (f : Front) (place n : ℕ) (s : List ℕ) (go : ℕ → Stream) → ((k : ℕ) → size (go k) ≤ n) → size (begin f place s go) ≤ suc n
begin_size (Blank k) place n s go again = let e = again (pred k) in omega (arith, e)
begin_size (Whole kind k) place n s go again = let e = again (pred k) in omega (arith, e)
begin_size Bad place n s go again = omega arith
begin_size Long place n s go again = omega arith

lex_size : (end skip : ℕ) (s : List ℕ) → size (lex end skip s) ≤ length s
unfolding lex
lex_size end skip [] = omega arith
lex_size end zero (b ∷ bs) = begin_size (front_at b bs) _ (length bs) (b ∷ bs) (λ k. lex end k bs) (λ k. lex_size end k bs)
lex_size end (suc skip) (b ∷ bs) = let e = lex_size end skip bs in omega (arith, e)

pub text_size : (text : List ℕ) → size (text_stream text) ≤ length text
text_size text = lex_size (length text) 0 text
