-- Where the tokens of a text end, and those of a comment.
use Rattle.std.proofs.Common.{◌≡◌, ℕ, zero, suc, pred, ◌+◌, ◌-◌, List, [], ◌∷◌, ◌++◌, length, refl, ap, ◌∙◌, arith, append-nil}
use Rattle.std.specs.List.{prefix_len}
use Rattle.st_tokens.specs.declared.kind.TokenFault.TheVariants.{BadByte, LongNumber}
use Rattle.st_tokens.specs.declared.kind.Front.{Front}
use Rattle.st_tokens.specs.declared.kind.Front.TheVariants.{Blank, Whole, Bad, Long}
use Rattle.st_tokens.specs.Text.{front_at, is_line_byte}
use Rattle.st_tokens.specs.Stream.{Lexeme, Stream, ends, breaks, more, ◌++>◌, lex, begin, text_stream, shifted}
use Rattle.proof_grammar.specs.Growing.{IsLine}

-- the end's place is the text's length
begins_end : (end q place : ℕ) (bs : List ℕ) (go : ℕ → Stream) (f : Front) (ts : List Lexeme) → ((k : ℕ) (us : List Lexeme) → go k ≡ us ++> ends q → q ≡ end) → begin f place bs go ≡ ts ++> ends q → q ≡ end
begins_end end q place bs go (Blank n) ts again h = again (pred n) ts h
begins_end end q place bs go (Whole kind n) [] again h = absurd cc
begins_end end q place bs go (Whole kind n) (t ∷ ts) again h = again (pred n) ts cc
begins_end end q place bs go Bad [] again h = absurd cc
begins_end end q place bs go Bad (t ∷ ts) again h = absurd cc
begins_end end q place bs go Long [] again h = absurd cc
begins_end end q place bs go Long (t ∷ ts) again h = absurd cc

lex_end : (end skip : ℕ) (bs : List ℕ) (ts : List Lexeme) (q : ℕ) → lex end skip bs ≡ ts ++> ends q → q ≡ end
unfolding lex
lex_end end skip [] [] q h = cc
lex_end end skip [] (t ∷ ts) q h = absurd cc
lex_end end (suc skip) (b ∷ bs) ts q h = lex_end end skip bs ts q h
lex_end end zero (b ∷ bs) ts q h = begins_end end q (end - length (b ∷ bs)) (b ∷ bs) (λ k. lex end k bs) (front_at b bs) ts (λ k us e. lex_end end k bs us q e) h

pub ends_there : (text : List ℕ) (ts : List Lexeme) (q : ℕ) → text_stream text ≡ ts ++> ends q → q ≡ length text
ends_there text ts q h = lex_end (length text) 0 text ts q h

-- tokens further on
pub shifted_none : (s : Stream) → shifted 0 s ≡ s
shifted_none (ends place) = ap ends (omega arith)
shifted_none (breaks (BadByte place)) = ap (λ p. breaks (BadByte p)) (omega arith)
shifted_none (breaks (LongNumber place)) = ap (λ p. breaks (LongNumber p)) (omega arith)
shifted_none (more t s) =
    let place : 0 + t.start ≡ t.start = omega arith in
    ap (λ (p : ℕ). more (record { kind = t.kind; text = t.text; start = p }) (shifted 0 s)) place ∙ ap (more t) (shifted_none s)

pub shifted_twice : (a b : ℕ) (s : Stream) → shifted a (shifted b s) ≡ shifted (a + b) s
shifted_twice a b (ends place) = ap ends (omega arith)
shifted_twice a b (breaks (BadByte place)) = ap (λ p. breaks (BadByte p)) (omega arith)
shifted_twice a b (breaks (LongNumber place)) = ap (λ p. breaks (LongNumber p)) (omega arith)
shifted_twice a b (more t s) =
    let place : a + (b + t.start) ≡ a + b + t.start = omega arith in
    ap (λ (p : ℕ). more (record { kind = t.kind; text = t.text; start = p }) (shifted a (shifted b s))) place
    ∙ ap (more (record { kind = t.kind; text = t.text; start = a + b + t.start })) (shifted_twice a b s)

-- a comment has no token
line_bytes : (bs : List ℕ) → IsLine bs → prefix_len is_line_byte bs ≡ length bs
line_bytes [] h = refl
line_bytes (b ∷ bs) h = rw h.0 (omega (arith, line_bytes bs h.1))

passed_over : (end : ℕ) (bs : List ℕ) → lex end (length bs) bs ≡ ends end
unfolding lex
passed_over end [] = refl
passed_over end (b ∷ bs) = passed_over end bs

lex_comment : (end : ℕ) (bs : List ℕ) → IsLine bs → lex end 0 (37 ∷ bs) ≡ ends end
unfolding lex
lex_comment end bs h =
    let all : pred (1 + prefix_len is_line_byte bs) ≡ length bs = omega (arith, line_bytes bs h) in
    ap (λ k. lex end k bs) all ∙ passed_over end bs

pub comment_has_none : (bs : List ℕ) → IsLine bs → text_stream ((37 ∷ bs) ++ []) ≡ ends (length (37 ∷ bs))
comment_has_none bs h = ap text_stream (append-nil (37 ∷ bs)) ∙ lex_comment (length (37 ∷ bs)) bs h

pub no_text : text_stream [] ≡ ends 0
unfolding lex
no_text = refl
