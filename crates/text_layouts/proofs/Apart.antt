-- Pieces between which nothing stands are read as they are.
use Rattle.std.proofs.Common.{codes, ◌≡◌, ℕ, ◌+◌, ◌<◌, Bool, true, false, ◌||◌, ◌==◌, inl, inr, List, [], ◌∷◌, ◌++◌, length, Option, Some, None, refl, sym, ap, subst, ◌∙◌, arith}
use Rattle.std.proofs.lemmas.Bool.Decides.{nat_tests}
use Rattle.st_tokens.specs.declared.kind.TokenKind.{TokenKind}
use Rattle.st_tokens.specs.declared.kind.TokenKind.TheVariants.{Name, Keyword, Numeral, Symbol}
use Rattle.st_tokens.specs.declared.kind.Front.TheVariants.{Blank, Whole, Bad}
use Rattle.st_tokens.specs.Text.{is_digit, is_word_byte, front, front_at, symbol, symbol_len}
use Rattle.text_layouts.specs.declared.kind.PieceKind.{PieceKind}
use Rattle.text_layouts.specs.declared.kind.PieceKind.TheVariants as kinds
use Rattle.text_layouts.specs.declared.piece.Piece.{Piece}
use Rattle.text_layouts.specs.Whole.{Ends, IsWhole, IsToken, IsWord}
use Rattle.text_layouts.specs.Written.{AreApart, BeginsOperand, EndsIn, IsGap}
use Rattle.text_layouts.specs.Touching.{is_break, is_free}
use Rattle.text_layouts.proofs.Fronts.{IsAlone, symbol_kind, token_keeps}
use Rattle.text_layouts.proofs.Layouts.{has_some, feed_ends}

-- no byte that goes on with a word, and no second one of a symbol
pub record IsBreak (c : ℕ) : Type 0 where
  pub word : is_word_byte c ≡ false
  pub digit : is_digit c ≡ false
  pub alone : IsAlone c

before_byte : (kind : TokenKind) (text : List ℕ) (c : ℕ) (us : List ℕ) → IsWhole (kinds.Token kind) text → is_word_byte c ≡ false → is_digit c ≡ false → (kind ≡ Symbol → IsAlone c) → Ends (kinds.Token kind) text (c ∷ us)
before_byte kind [] c us h e f alone = absurd (omega (arith, has_some (kinds.Token kind) [] h))
before_byte kind (b ∷ xs) c us h e f alone =
    let all : length (b ∷ xs) ≡ 1 + length xs = omega arith in
    token_keeps kind b c xs us e f alone (h ∙ ap (Whole kind) all) ∙ ap (Whole kind) (sym all)

-- a token in front of a byte that belongs to nothing before it
pub before_break : (kind : PieceKind) (text : List ℕ) (c : ℕ) (us : List ℕ) → IsToken kind → IsWhole kind text → IsBreak c → Ends kind text (c ∷ us)
before_break (kinds.Token kind) text c us is h k = before_byte kind text c us h k.word k.digit (λ e. k.alone)
before_break kinds.Comment text c us is h k = absurd is

-- a word in front of a colon
pub before_colon : (kind : PieceKind) (text : List ℕ) (us : List ℕ) → IsWord kind → IsWhole kind text → Ends kind text (58 ∷ us)
before_colon (kinds.Token Name) text us is h = before_byte Name text 58 us h refl refl (λ e. absurd cc)
before_colon (kinds.Token Keyword) text us is h = before_byte Keyword text 58 us h refl refl (λ e. absurd cc)
before_colon (kinds.Token Numeral) text us is h = before_byte Numeral text 58 us h refl refl (λ e. absurd cc)
before_colon (kinds.Token Symbol) text us is h = absurd is
before_colon kinds.Comment text us is h = absurd is

pub comma : IsBreak 44
comma = record { word = refl; digit = refl; alone = record { equals = refl; colon = refl; bar = refl; back = refl; slash = refl; greater = refl; less = refl } }

pub semicolon : IsBreak 59
semicolon = record { word = refl; digit = refl; alone = record { equals = refl; colon = refl; bar = refl; back = refl; slash = refl; greater = refl; less = refl } }

pub closing : IsBreak 41
closing = record { word = refl; digit = refl; alone = record { equals = refl; colon = refl; bar = refl; back = refl; slash = refl; greater = refl; less = refl } }

pub dot : IsBreak 46
dot = record { word = refl; digit = refl; alone = record { equals = refl; colon = refl; bar = refl; back = refl; slash = refl; greater = refl; less = refl } }

pub star : IsBreak 42
star = record { word = refl; digit = refl; alone = record { equals = refl; colon = refl; bar = refl; back = refl; slash = refl; greater = refl; less = refl } }

space : IsBreak 32
space = record { word = refl; digit = refl; alone = record { equals = refl; colon = refl; bar = refl; back = refl; slash = refl; greater = refl; less = refl } }

-- the symbol is one whatever follows
abbrev pub IsFree : ℕ → Type 0
IsFree b = (us : List ℕ) → front (b ∷ us) ≡ Whole Symbol 1

pub free_opening : IsFree 40
free_opening [] = refl
free_opening (c ∷ []) = refl
free_opening (c ∷ d ∷ us) = refl

pub free_not : IsFree 126
free_not [] = refl
free_not (c ∷ []) = refl
free_not (c ∷ d ∷ us) = refl

pub free_star : IsFree 42
free_star [] = refl
free_star (c ∷ []) = refl
free_star (c ∷ d ∷ us) = refl

pub free_dot : IsFree 46
free_dot [] = refl
free_dot (c ∷ []) = refl
free_dot (c ∷ d ∷ us) = refl

single_kind : (kind : PieceKind) (b : ℕ) → IsFree b → IsWhole kind (b ∷ []) → kind ≡ kinds.Token Symbol
single_kind (kinds.Token k) b free h = let e : Whole Symbol 1 ≡ Whole k 1 = sym (free (10 ∷ [])) ∙ h in cc
single_kind kinds.Comment b free h = let e : Whole Symbol 1 ≡ Blank 1 = sym (free (10 ∷ [])) ∙ h in absurd cc

-- a symbol of one byte in front of anything
pub behind_free : (kind : PieceKind) (text : List ℕ) (b : ℕ) (us : List ℕ) → IsFree b → text ≡ b ∷ [] → IsWhole kind text → Ends kind text us
behind_free kind text b us free e h =
    let w : IsWhole kind (b ∷ []) = let P : List ℕ → Type 0 = IsWhole kind in subst P e h in
    let P : PieceKind → Type 0 = λ k. Ends k (b ∷ []) us in
    let g : Ends kind (b ∷ []) us = subst P (sym (single_kind kind b free w)) (free us) in
    let Q : List ℕ → Type 0 = λ t. Ends kind t us in
    subst Q (sym e) g

-- a minus in front of what is no `>`
minus_front : (c : ℕ) (us : List ℕ) → (c == 62) ≡ false → front (45 ∷ c ∷ us) ≡ Whole Symbol 1
minus_front c [] e = rw e refl
minus_front c (d ∷ us) e = rw e refl

minus_kind : (kind : PieceKind) → IsWhole kind (45 ∷ []) → kind ≡ kinds.Token Symbol
minus_kind (kinds.Token k) h = let e : Whole Symbol 1 ≡ Whole k 1 = h in cc
minus_kind kinds.Comment h = let e : Whole Symbol 1 ≡ Blank 1 = h in absurd cc

minus_ends : (kind : PieceKind) (text : List ℕ) (c : ℕ) (us : List ℕ) → text ≡ 45 ∷ [] → IsWhole kind text → (c == 62) ≡ false → Ends kind text (c ∷ us)
minus_ends kind text c us e h f =
    let w : IsWhole kind (45 ∷ []) = let P : List ℕ → Type 0 = IsWhole kind in subst P e h in
    let P : PieceKind → Type 0 = λ k. Ends k (45 ∷ []) (c ∷ us) in
    let g : Ends kind (45 ∷ []) (c ∷ us) = subst P (sym (minus_kind kind w)) (minus_front c us f) in
    let Q : List ℕ → Type 0 = λ t. Ends kind t (c ∷ us) in
    subst Q (sym e) g

greater_front : (k : TokenKind) (n : ℕ) (xs : List ℕ) → symbol (symbol_len (62 ∷ xs)) ≡ Whole k n → k ≡ Symbol
greater_front k n xs h = symbol_kind (symbol_len (62 ∷ xs) == 0) k (symbol_len (62 ∷ xs)) n h

no_greater : (v : Bool) (b : ℕ) → v ≡ (b == 62) → (b ≡ 62 → ⊥) → (b == 62) ≡ false
no_greater true b e h = absurd (h (grind (arith, nat_tests)))
no_greater false b e h = sym e

word_front : (k : TokenKind) (c : ℕ) (cs : List ℕ) → (k ≡ Symbol → ⊥) → IsWhole (kinds.Token k) (c ∷ cs) → (c == 62) ≡ false
word_front k c cs never h =
    no_greater (c == 62) c refl (λ e. let P : ℕ → Type 0 = λ b. IsWhole (kinds.Token k) (b ∷ cs) in never (greater_front k _ (cs ++ 10 ∷ []) (subst P e h)))

before_word_text : (kind k : PieceKind) (text next : List ℕ) (us : List ℕ) → text ≡ 45 ∷ [] → IsWhole kind text → IsWord k → IsWhole k next → Ends kind text (next ++ us)
before_word_text kind k text [] us e h is w = absurd (omega (arith, has_some k [] w))
before_word_text kind (kinds.Token Name) text (c ∷ cs) us e h is w = minus_ends kind text c (cs ++ us) e h (word_front Name c cs (λ k. cc) w)
before_word_text kind (kinds.Token Keyword) text (c ∷ cs) us e h is w = minus_ends kind text c (cs ++ us) e h (word_front Keyword c cs (λ k. cc) w)
before_word_text kind (kinds.Token Numeral) text (c ∷ cs) us e h is w = minus_ends kind text c (cs ++ us) e h (word_front Numeral c cs (λ k. cc) w)
before_word_text kind (kinds.Token Symbol) text (c ∷ cs) us e h is w = absurd is
before_word_text kind kinds.Comment text (c ∷ cs) us e h is w = absurd is

or_elim : {A : Type 0} (x y : Bool) → (x || y) ≡ true → (x ≡ true → A) → (y ≡ true → A) → A
or_elim true y e f g = f refl
or_elim false y e f g = g e

byte_is : (b k : ℕ) → (b == k) ≡ true → k ≡ b
byte_is b k e = grind (arith, nat_tests)

break_byte : (b : ℕ) → is_break (b ∷ []) ≡ true → IsBreak b
break_byte b e =
    or_elim (b == 44) _ e (λ f. subst IsBreak (byte_is b 44 f) comma)
    (λ e. or_elim (b == 59) _ e (λ f. subst IsBreak (byte_is b 59 f) semicolon)
    (λ e. or_elim (b == 41) _ e (λ f. subst IsBreak (byte_is b 41 f) closing)
    (λ e. or_elim (b == 46) _ e (λ f. subst IsBreak (byte_is b 46 f) dot) (λ f. subst IsBreak (byte_is b 42 f) star))))

free_byte : (b : ℕ) → is_free (b ∷ []) ≡ true → IsFree b
free_byte b e =
    or_elim (b == 40) _ e (λ f. subst IsFree (byte_is b 40 f) free_opening)
    (λ e. or_elim (b == 126) _ e (λ f. subst IsFree (byte_is b 126 f) free_not)
    (λ e. or_elim (b == 42) _ e (λ f. subst IsFree (byte_is b 42 f) free_star) (λ f. subst IsFree (byte_is b 46 f) free_dot)))

before_breaks : (kind : PieceKind) (text next us : List ℕ) → IsToken kind → IsWhole kind text → is_break next ≡ true → Ends kind text (next ++ us)
before_breaks kind text [] us is h e = absurd cc
before_breaks kind text (c ∷ []) us is h e = before_break kind text c us is h (break_byte c e)
before_breaks kind text (c ∷ d ∷ next) us is h e = absurd cc

behind_frees : (kind : PieceKind) (text us : List ℕ) → IsWhole kind text → is_free text ≡ true → Ends kind text us
behind_frees kind [] us h e = absurd cc
behind_frees kind (b ∷ []) us h e = behind_free kind (b ∷ []) b us (free_byte b e) refl h
behind_frees kind (b ∷ c ∷ text) us h e = absurd cc

starts : (p q : Piece) (c : ℕ) → q.text.now ≡ c ∷ [] → ((us : List ℕ) → Ends p.kind p.text.now (c ∷ us)) → AreApart p q
starts p q c e h = λ behind. let P : List ℕ → Type 0 = λ t. Ends p.kind p.text.now (t ++ behind) in subst P (sym e) (h behind)

-- The rules of spacing, in the words of pieces.
pub held_apart : (p q : Piece) → is_break q.text.now ≡ true → IsToken p.kind → AreApart p q
held_apart p q e is = λ behind. before_breaks p.kind p.text.now q.text.now behind is p.whole e

pub colon_apart : (p q : Piece) → q.text.now ≡ 58 ∷ [] → IsWord p.kind → AreApart p q
colon_apart p q e is = starts p q 58 e (λ us. before_colon p.kind p.text.now us is p.whole)

pub free_apart : (p q : Piece) → is_free p.text.now ≡ true → AreApart p q
free_apart p q e = λ behind. behind_frees p.kind p.text.now (q.text.now ++ behind) p.whole e

pub sign_apart : (p q : Piece) → p.text.now ≡ codes "-" → BeginsOperand q → AreApart p q
sign_apart p q e (inl is) = λ behind. before_word_text p.kind q.kind p.text.now q.text.now behind e p.whole is q.whole
sign_apart p q e (inr f) = starts p q 40 f (λ us. minus_ends p.kind p.text.now 40 us e p.whole refl)

pub ruleset spacing_rules = (held_apart, colon_apart, free_apart, sign_apart)

-- What stands between pieces.
pub gap_none : (next : List ℕ) → IsGap None [] next
gap_none next = record { blank = tt; apart = λ behind. tt }

pub gap_feed : (p : Piece) (next : List ℕ) → IsGap (Some p) (10 ∷ []) next
gap_feed p next = record { blank = (refl, tt); apart = λ behind. feed_ends p.kind p.text.now (next ++ behind) p.whole }

pub gap_space : (p : Piece) (next : List ℕ) → IsToken p.kind → IsGap (Some p) (32 ∷ []) next
gap_space p next is = record { blank = (refl, tt); apart = λ behind. before_break p.kind p.text.now 32 (next ++ behind) is p.whole space }

pub gap_close : (p q : Piece) → AreApart p q → IsGap (Some p) [] q.text.now
gap_close p q h = record { blank = tt; apart = h }

pub ruleset gap_rules = (gap_none, gap_feed, gap_space, gap_close)
