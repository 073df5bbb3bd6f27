-- Tokens in front of a stream.
use Rattle.std.proofs.Common.{◌≡◌, ℕ, ◌≤◌, Bool, true, List, [], ◌∷◌, ◌++◌, inl, inr, refl, ap, ◌∙◌, arith}
use Rattle.st_tokens.specs.Stream.{◌++>◌, Lexeme, Stream, ends, breaks, more, behind}
use Rattle.st_reading.specs.Sign.{sign_of}
use Rattle.st_reading.specs.declared.sign.Sign.{Sign}
use Rattle.st_reading.specs.Reading.{syntax, ahead, refusal, size}
use Rattle.st_reading.specs.Steady.{token, head, Follows}

pub append_stream : (a b : List Lexeme) (s : Stream) → (a ++ b) ++> s ≡ a ++> (b ++> s)
append_stream [] b s = refl
append_stream (t ∷ a) b s = ap (more t) (append_stream a b s)

pub follows_through : (calm : Sign → Bool) (ts : List Lexeme) (s after : Stream) → Follows calm s after → Follows calm (ts ++> s) (ts ++> after)
follows_through calm [] s after h = h
follows_through calm (t ∷ ts) s after h = inl refl

pub same_through : (ts : List Lexeme) (s after : Stream) → head after ≡ head s → head (ts ++> after) ≡ head (ts ++> s)
same_through [] s after h = h
same_through (t ∷ ts) s after h = refl

pub token_is : (t : Lexeme) (s : Stream) → head s ≡ token t → (rest : Stream) × (s ≡ more t rest)
token_is t (ends p) h = cc
token_is t (breaks f) h = cc
token_is t (more u s) h = let e : u ≡ t = cc in (s, ap (λ v. more v s) e)

pub refusal_same : {X : Type 0} (s after : Stream) → head after ≡ head s → refusal {X = X} after ≡ refusal s
refusal_same (ends p) (ends q) h = cc
refusal_same (ends p) (breaks f) h = cc
refusal_same (ends p) (more t s) h = cc
refusal_same (breaks f) (ends q) h = cc
refusal_same (breaks f) (breaks g) h = cc
refusal_same (breaks f) (more t s) h = cc
refusal_same (more t s) (ends q) h = cc
refusal_same (more t s) (breaks f) h = cc
refusal_same (more t s) (more u r) h = let e : u ≡ t = cc in ap (λ (v : Lexeme). syntax v.start) e

pub ahead_same : (s after : Stream) → head after ≡ head s → ahead after ≡ ahead s
ahead_same (ends p) (ends q) h = refl
ahead_same (ends p) (breaks f) h = refl
ahead_same (ends p) (more t s) h = cc
ahead_same (breaks f) (ends q) h = refl
ahead_same (breaks f) (breaks g) h = refl
ahead_same (breaks f) (more t s) h = cc
ahead_same (more t s) (ends q) h = cc
ahead_same (more t s) (breaks f) h = cc
ahead_same (more t s) (more u r) h = let e : u ≡ t = cc in ap sign_of e

pub size_through : (ts : List Lexeme) (s : Stream) → size s ≤ size (ts ++> s)
size_through [] s = omega arith
size_through (t ∷ ts) s = omega (arith, size_through ts s)

pub behind_size : (s : Stream) → size (behind s) ≤ size s
behind_size (ends place) = omega arith
behind_size (breaks f) = omega arith
behind_size (more t s) = omega arith

-- what is asked of the next token alone, and holds of each calm one
pub follow_test : {A : Type 0} (calm : Sign → Bool) (test : Sign → A) (other : A) → ((g : Sign) → calm g ≡ true → test g ≡ other) → (s after : Stream) → test (ahead s) ≡ other → Follows calm s after → test (ahead after) ≡ other
follow_test calm test other calms s after h (inl same) = ap test (ahead_same s after same) ∙ h
follow_test calm test other calms s after h (inr c) = calms (ahead after) c

pub more_parts : (t u : Lexeme) (s r : Stream) → more t s ≡ more u r → (t ≡ u) × (s ≡ r)
more_parts t u s r h = (cc, cc)

-- the tokens before an end are determined
pub same_text : (a b : List Lexeme) (p : ℕ) → a ++> ends p ≡ b ++> ends p → a ≡ b
same_text [] [] p h = refl
same_text [] (t ∷ b) p h = cc
same_text (t ∷ a) [] p h = cc
same_text (t ∷ a) (u ∷ b) p h = let m = more_parts t u (a ++> ends p) (b ++> ends p) h in let e = same_text a b p m.1 in cc

-- what stands before the same rest is the same
pub same_cut : (a b : List Lexeme) (m : Stream) → a ++> m ≡ b ++> m → a ≡ b
same_cut [] [] m h = refl
same_cut [] (u ∷ b) m h = absurd (omega (arith, ap size h, size_through b m))
same_cut (t ∷ a) [] m h = absurd (omega (arith, ap size h, size_through a m))
same_cut (t ∷ a) (u ∷ b) m h = let n = more_parts t u (a ++> m) (b ++> m) h in let e = same_cut a b m n.1 in cc
