-- Going over a text, piece by piece.
use Rattle.std.proofs.Common.{◌≡◌, ℕ, zero, suc, ◌+◌, ◌-◌, ◌^◌, ◌≤◌, ◌<◌, nat_lt, Bool, true, false, cond, ◌==◌, List, [], ◌∷◌, ◌++◌, take, drop, length, refl, sym, ap, subst, ◌∙◌, arith, append_assoc, append-nil}
use Rattle.std.proofs.lemmas.Bool.Decides.{nat_tests}
use Rattle.std.proofs.lemmas.List.{take-append-drop, length-take-le}
use Rattle.std.specs.List.{prefix_len}
use Rattle.st_tokens.specs.declared.kind.TokenKind.{TokenKind}
use Rattle.st_tokens.specs.declared.kind.TokenKind.TheVariants.{Numeral, Symbol}
use Rattle.st_tokens.specs.declared.kind.Front.{Front}
use Rattle.st_tokens.specs.declared.kind.Front.TheVariants.{Blank, Whole, Bad, Long}
use Rattle.st_tokens.specs.Text.{is_blank, is_letter, is_digit, is_line_byte, is_word_byte, front, front_at, numeral, symbol, symbol_len, value_of, IsWithin}
use Rattle.st_tokens.specs.Stream.{Lexeme, Stream, ends, breaks, more, ◌++>◌, lex, text_stream}
use Rattle.st_tokens.proofs.Lexing.{lex_blank, lex_whole, lex_bad, lex_long}
use Rattle.st_tokens.proofs.Fronts.{front_proper, front_cut, IsFront}
use Rattle.text_layouts.specs.declared.kind.PieceKind.{PieceKind}
use Rattle.text_layouts.specs.declared.kind.PieceKind.TheVariants as kinds
use Rattle.text_layouts.specs.declared.piece.Piece.{Piece}
use Rattle.text_layouts.specs.Same.{mark_of, marks}
use Rattle.text_layouts.specs.Refused.{first_fault}
use Rattle.text_layouts.specs.Whole.{IsWhole, front_of}
use Rattle.text_layouts.specs.Pieces.{starts_blank, starts_comment, tokens_at, tokens_of, marks_of, AreBefore}
use Rattle.text_layouts.specs.Written.{AreBlank}

pub marks_append : (xs ys : List ℕ) → marks (xs ++ ys) ≡ marks xs ++ marks ys
marks_append [] ys = refl
marks_append (b ∷ bs) ys = ap (λ z. mark_of b ++ z) (marks_append bs ys) ∙ sym (append_assoc (mark_of b) (marks bs) (marks ys))

pub onto_append : (xs ys : List Lexeme) (s : Stream) → (xs ++ ys) ++> s ≡ xs ++> (ys ++> s)
onto_append [] ys s = refl
onto_append (x ∷ xs) ys s = ap (more x) (onto_append xs ys s)

mark_blank : (v : Bool) (b : ℕ) → v ≡ true → cond v [] (b ∷ []) ≡ []
mark_blank true b e = refl
mark_blank false b e = absurd cc

blank_first : (v : Bool) (f : Front) → v ≡ true → Blank 1 ≡ cond v (Blank 1) f
blank_first true f e = refl
blank_first false f e = absurd cc

pub marks_blank : (bs : List ℕ) → AreBlank bs → marks bs ≡ []
marks_blank [] h = refl
marks_blank (b ∷ bs) h = ap (λ m. m ++ marks bs) (mark_blank (is_blank b) b h.0) ∙ marks_blank bs h.1

-- a blank is passed over
pub lex_past : (end b : ℕ) (bs : List ℕ) → is_blank b ≡ true → lex end 0 (b ∷ bs) ≡ lex end 0 bs
lex_past end b bs e = lex_blank end 1 (b ∷ bs) (blank_first (is_blank b) _ e) (omega arith)

pub lex_blanks : (end : ℕ) (gap bs : List ℕ) → AreBlank gap → lex end 0 (gap ++ bs) ≡ lex end 0 bs
lex_blanks end [] bs h = refl
lex_blanks end (b ∷ gap) bs h = lex_past end b (gap ++ bs) h.0 ∙ lex_blanks end gap bs h.1

pub past_blank : (text : List ℕ) (b : ℕ) (bs : List ℕ) (ps : List Piece) → is_blank b ≡ true → AreBefore text (b ∷ bs) ps → AreBefore text bs ps
past_blank text b bs ps e h = record {
  tokens = h.tokens ∙ ap (λ s. tokens_of ps ++> s) (lex_past 0 b bs e);
  bytes = h.bytes ∙ ap (λ m. marks_of ps ++ m) (ap (λ m. m ++ marks bs) (mark_blank (is_blank b) b e));
  fault = h.fault ∙ ap first_fault (lex_past (length text) b bs e);
}

-- what is known of a piece that stands at the front
pub record StandsThere (end : ℕ) (kind : PieceKind) (piece rest left : List ℕ) : Type 0 where
  pub tokens : lex 0 0 rest ≡ tokens_at kind piece ++> lex 0 0 left
  pub bytes : marks rest ≡ marks piece ++ marks left
  pub fault : first_fault (lex end 0 rest) ≡ first_fault (lex end 0 left)

pub past_piece : (text rest left piece : List ℕ) (kind : PieceKind) (ps qs : List Piece) → AreBefore text rest ps → StandsThere (length text) kind piece rest left
    → tokens_of qs ≡ tokens_of ps ++ tokens_at kind piece → marks_of qs ≡ marks_of ps ++ marks piece → AreBefore text left qs
past_piece text rest left piece kind ps qs h there tokens bytes = record {
  tokens = h.tokens ∙ ap (λ s. tokens_of ps ++> s) there.tokens ∙ sym (onto_append (tokens_of ps) (tokens_at kind piece) (lex 0 0 left)) ∙ ap (λ ts. ts ++> lex 0 0 left) (sym tokens);
  bytes = h.bytes ∙ ap (λ m. marks_of ps ++ m) there.bytes ∙ sym (append_assoc (marks_of ps) (marks piece) (marks left)) ∙ ap (λ m. m ++ marks left) (sym bytes);
  fault = h.fault ∙ there.fault;
}

marks_cut : (n : ℕ) (bs : List ℕ) → marks bs ≡ marks (take n bs) ++ marks (drop n bs)
marks_cut n bs = ap marks (sym (take-append-drop n bs)) ∙ marks_append (take n bs) (drop n bs)

-- a token at the front
pub token_there : (end n : ℕ) (kind : TokenKind) (rest : List ℕ) → Whole kind n ≡ front rest → 0 < n → StandsThere end (kinds.Token kind) (take n rest) rest (drop n rest)
token_there end n kind rest is some =
    let first : 0 - length rest ≡ 0 = omega arith in
    record {
      tokens = lex_whole 0 n kind rest is some ∙ ap (λ (start : ℕ). more (record { kind = kind; text = take n rest; start = start }) (lex 0 0 (drop n rest))) first;
      bytes = marks_cut n rest;
      fault = ap first_fault (lex_whole end n kind rest is some);
    }

pub token_whole : (n : ℕ) (kind : TokenKind) (rest : List ℕ) → Whole kind n ≡ front rest → 0 < n → n ≤ length rest → IsWhole (kinds.Token kind) (take n rest)
token_whole zero kind rest is some within = absurd (omega arith)
token_whole (suc n) kind [] is some within = absurd (omega arith)
token_whole (suc n) kind (b ∷ bs) is some within =
    let long : length (take n bs) ≡ n = length-take-le n bs (omega arith) in
    let e : front_at b (take n bs ++ drop n bs) ≡ Whole kind (suc n) = ap (front_at b) (take-append-drop n bs) ∙ sym is in
    let fits : IsFront (1 + length (take n bs)) (Whole kind (suc n)) = record { within = omega (arith, long); some = omega arith } in
    let all : suc n ≡ length (b ∷ take n bs) = omega (arith, long) in
    let there : IsFront (1 + length (take n bs)) (front_at b (take n bs ++ drop n bs)) = let P : Front → Type 0 = IsFront (1 + length (take n bs)) in subst P (sym e) fits in
    front_cut b (take n bs) (drop n bs) [] there ∙ e ∙ ap (Whole kind) all

-- what stands at the front where no blank and no comment does
numeral_no_blank : (v : Bool) (n m : ℕ) → Blank m ≡ cond v Long (Whole Numeral n) → ⊥
numeral_no_blank true n m e = cc
numeral_no_blank false n m e = cc

symbol_no_blank : (v : Bool) (n m : ℕ) → Blank m ≡ cond v Bad (Whole Symbol n) → ⊥
symbol_no_blank true n m e = cc
symbol_no_blank false n m e = cc

split : (v : Bool) (x y f : Front) → f ≡ cond v x y → (f ≡ x → ⊥) → (f ≡ y → ⊥) → ⊥
split true x y f e g h = g e
split false x y f e g h = h e

other : (v : Bool) (x y f : Front) → f ≡ cond v x y → v ≡ false → (f ≡ y → ⊥) → ⊥
other true x y f e h g = cc
other false x y f e h g = g e

no_blank : (b m : ℕ) (bs : List ℕ) → is_blank b ≡ false → (b == 37) ≡ false → Blank m ≡ front_at b bs → ⊥
no_blank b m bs e f is =
    other (is_blank b) _ _ _ is e
    (λ g. other (b == 37) _ _ _ g f
    (λ g. split (is_letter b) _ _ _ g (λ h. cc)
    (λ g. split (is_digit b) _ _ _ g (λ h. numeral_no_blank (nat_lt (2 ^ 30) (value_of (take (1 + prefix_len is_digit bs) (b ∷ bs)))) (1 + prefix_len is_digit bs) m h)
    (λ h. symbol_no_blank (symbol_len (b ∷ bs) == 0) (symbol_len (b ∷ bs)) m h))))

-- the next token is that at the front
pub record IsNext (end : ℕ) (t : Lexeme) (s : Stream) (rest : List ℕ) : Type 0 where
  pub front : Whole t.kind (length t.text) ≡ front rest
  pub some : 0 < length t.text
  pub within : length t.text ≤ length rest
  pub behind : s ≡ lex end 0 (drop (length t.text) rest)

parts : (t u : Lexeme) (s r : Stream) → more t s ≡ more u r → (t ≡ u) × (s ≡ r)
parts t u s r h = (cc, cc)

next_whole : (end b n : ℕ) (bs : List ℕ) (kind : TokenKind) (t : Lexeme) (s : Stream) → lex end 0 (b ∷ bs) ≡ more t s → Whole kind n ≡ front_at b bs → IsNext end t s (b ∷ bs)
next_whole end b n bs kind t s e is =
    let proper : IsWithin (Whole kind n) (1 + length bs) = let P : Front → Type 0 = λ f. IsWithin f (1 + length bs) in subst P (sym is) (front_proper b bs) in
    let u : Lexeme = record { kind = kind; text = take n (b ∷ bs); start = end - length (b ∷ bs) } in
    let both = parts t u s (lex end 0 (drop n (b ∷ bs))) (sym e ∙ lex_whole end n kind (b ∷ bs) is proper.0) in
    let long : length (take n (b ∷ bs)) ≡ n = length-take-le n (b ∷ bs) (omega (arith, proper.1)) in
    let P : Lexeme → Type 0 = λ x. IsNext end x s (b ∷ bs) in
    let w : Whole kind (length (take n (b ∷ bs))) ≡ front_at b bs = ap (Whole kind) long ∙ is in
    subst P (sym both.0) (record { front = w; some = omega (arith, proper.0, long); within = omega (arith, proper.1, long); behind = both.1 ∙ ap (λ k. lex end 0 (drop k (b ∷ bs))) (sym long) })

next_at : (end b : ℕ) (bs : List ℕ) (t : Lexeme) (s : Stream) → is_blank b ≡ false → (b == 37) ≡ false → lex end 0 (b ∷ bs) ≡ more t s → (f : Front) → f ≡ front_at b bs → IsNext end t s (b ∷ bs)
next_at end b bs t s e f is (Blank n) g = absurd (no_blank b n bs e f g)
next_at end b bs t s e f is (Whole kind n) g = next_whole end b n bs kind t s is g
next_at end b bs t s e f is Bad g = let k = lex_bad end (b ∷ bs) g (omega arith) in absurd cc
next_at end b bs t s e f is Long g = let k = lex_long end (b ∷ bs) g in absurd cc

pub next_token : (end b : ℕ) (bs : List ℕ) (t : Lexeme) (s : Stream) → is_blank b ≡ false → (b == 37) ≡ false → lex end 0 (b ∷ bs) ≡ more t s → IsNext end t s (b ∷ bs)
next_token end b bs t s e f is = next_at end b bs t s e f is (front_at b bs) refl

end_at : (end b p : ℕ) (bs : List ℕ) → is_blank b ≡ false → (b == 37) ≡ false → lex end 0 (b ∷ bs) ≡ ends p → (f : Front) → f ≡ front_at b bs → ⊥
end_at end b p bs e f is (Blank n) g = no_blank b n bs e f g
end_at end b p bs e f is (Whole kind n) g =
    let proper : IsWithin (Whole kind n) (1 + length bs) = let P : Front → Type 0 = λ f. IsWithin f (1 + length bs) in subst P (sym g) (front_proper b bs) in
    let k = lex_whole end n kind (b ∷ bs) g proper.0 in cc
end_at end b p bs e f is Bad g = let k = lex_bad end (b ∷ bs) g (omega arith) in cc
end_at end b p bs e f is Long g = let k = lex_long end (b ∷ bs) g in cc

-- a text isn't at its end where a byte is left that is no blank and begins no comment
pub no_end : (end b p : ℕ) (bs : List ℕ) → is_blank b ≡ false → (b == 37) ≡ false → lex end 0 (b ∷ bs) ≡ ends p → ⊥
no_end end b p bs e f is = end_at end b p bs e f is (front_at b bs) refl

-- bytes of one line
abbrev pub InLine : List ℕ → Type 0
InLine [] = Unit {0}
InLine (b ∷ bs) = (is_line_byte b ≡ true) × InLine bs

in_line_step : (v : Bool) (b : ℕ) (bs : List ℕ) → v ≡ is_line_byte b → InLine (take (prefix_len is_line_byte bs) bs) → InLine (take (cond v (1 + prefix_len is_line_byte bs) 0) (b ∷ bs))
in_line_step true b bs e h =
    let one : suc (prefix_len is_line_byte bs) ≡ 1 + prefix_len is_line_byte bs = omega arith in
    let P : ℕ → Type 0 = λ n. InLine (take n (b ∷ bs)) in
    subst P one (sym e, h)
in_line_step false b bs e h = tt

in_line : (bs : List ℕ) → InLine (take (prefix_len is_line_byte bs) bs)
in_line [] = tt
in_line (b ∷ bs) = in_line_step (is_line_byte b) b bs refl (in_line bs)

in_line_front : (xs ys : List ℕ) → InLine (xs ++ ys) → InLine xs
in_line_front [] ys h = tt
in_line_front (x ∷ xs) ys h = (h.0, in_line_front xs ys h.1)

longer : (v : Bool) (n m whole : ℕ) → v ≡ true → n ≡ m → whole ≡ 1 + m → cond v (1 + n) 0 ≡ whole
longer true n m whole e is h = omega arith
longer false n m whole e is h = absurd cc

line_long : (xs us : List ℕ) → InLine xs → prefix_len is_line_byte (xs ++ 10 ∷ us) ≡ length xs
line_long [] us h = refl
line_long (x ∷ xs) us h = longer (is_line_byte x) (prefix_len is_line_byte (xs ++ 10 ∷ us)) (length xs) (length (x ∷ xs)) h.0 (line_long xs us h.1) (omega arith)

comment_front : (bs : List ℕ) → Blank (1 + prefix_len is_line_byte bs) ≡ front (37 ∷ bs)
comment_front bs = refl

comment_text : (bs piece gap : List ℕ) → AreBlank gap → 37 ∷ take (prefix_len is_line_byte bs) bs ≡ piece ++ gap → IsWhole kinds.Comment piece
comment_text bs [] [] h e = absurd cc
comment_text bs [] (b ∷ gap) h e =
    let k : 37 ≡ b = cc in
    let P : ℕ → Type 0 = λ c. is_blank c ≡ true in
    let g : is_blank 37 ≡ true = subst P (sym k) h.0 in absurd cc
comment_text bs (b ∷ xs) gap h e =
    let k : 37 ≡ b = cc in
    let f : take (prefix_len is_line_byte bs) bs ≡ xs ++ gap = cc in
    let Q : List ℕ → Type 0 = InLine in
    let line : InLine xs = in_line_front xs gap (subst Q f (in_line bs)) in
    let all : 1 + length xs ≡ length (37 ∷ xs) = omega arith in
    let w : IsWhole kinds.Comment (37 ∷ xs) = ap (λ n. Blank (1 + n)) (line_long xs [] line) ∙ ap Blank all in
    let P : ℕ → Type 0 = λ c. IsWhole kinds.Comment (c ∷ xs) in subst P k w

-- a comment at the front, with the blanks at its end
module _ (end b : ℕ) (bs piece gap : List ℕ) (is : (b == 37) ≡ true) (blank : AreBlank gap) (e : take (1 + prefix_len is_line_byte bs) (b ∷ bs) ≡ piece ++ gap) where
  sign : 37 ≡ b
  sign = grind (arith, nat_tests)

  pub comment_whole : IsWhole kinds.Comment piece
  comment_whole =
      let one : suc (prefix_len is_line_byte bs) ≡ 1 + prefix_len is_line_byte bs = omega arith in
      comment_text bs piece gap blank (ap (λ n. take n (37 ∷ bs)) one ∙ ap (λ c. take (1 + prefix_len is_line_byte bs) (c ∷ bs)) sign ∙ e)

  fronts : Blank (1 + prefix_len is_line_byte bs) ≡ front (b ∷ bs)
  fronts = comment_front bs ∙ ap (λ c. front (c ∷ bs)) sign

  pub comment_there : StandsThere end kinds.Comment piece (b ∷ bs) (drop (1 + prefix_len is_line_byte bs) (b ∷ bs))
  comment_there = record {
    tokens = lex_blank 0 _ (b ∷ bs) fronts (omega arith);
    bytes = marks_cut (1 + prefix_len is_line_byte bs) (b ∷ bs) ∙ ap (λ m. m ++ marks (drop (1 + prefix_len is_line_byte bs) (b ∷ bs))) (ap marks e ∙ marks_append piece gap ∙ ap (λ m. marks piece ++ m) (marks_blank gap blank) ∙ append-nil (marks piece));
    fault = ap first_fault (lex_blank end _ (b ∷ bs) fronts (omega arith));
  }

-- The same of what is left of a text.
pub stream_past : (end : ℕ) (rest left : List ℕ) → starts_blank rest ≡ true → left ≡ drop 1 rest → lex end 0 rest ≡ lex end 0 left
stream_past end [] left e is = absurd cc
stream_past end (b ∷ bs) left e is = lex_past end b bs e ∙ ap (lex end 0) (sym is)

pub blank_step : (text rest left : List ℕ) (ps : List Piece) → starts_blank rest ≡ true → left ≡ drop 1 rest → AreBefore text rest ps → AreBefore text left ps
blank_step text [] left ps e is h = absurd cc
blank_step text (b ∷ bs) left ps e is h = let P : List ℕ → Type 0 = λ l. AreBefore text l ps in subst P (sym is) (past_blank text b bs ps e h)

comment_prefix : (b : ℕ) (bs : List ℕ) → (b == 37) ≡ true → prefix_len is_line_byte (b ∷ bs) ≡ 1 + prefix_len is_line_byte bs
comment_prefix b bs e =
    let k : 37 ≡ b = grind (arith, nat_tests) in
    let P : ℕ → Type 0 = λ c. prefix_len is_line_byte (c ∷ bs) ≡ 1 + prefix_len is_line_byte bs in
    subst P k refl

pub comment_some : (rest : List ℕ) → starts_comment rest ≡ true → 0 < prefix_len is_line_byte rest
comment_some [] e = absurd cc
comment_some (b ∷ bs) e = let k = comment_prefix b bs e in omega (arith, k)

-- a comment is what is left of it without blanks at its end
abbrev pub IsTrimmed : List ℕ → List ℕ → Type 0
IsTrimmed comment piece = (blanks : List ℕ) × (comment ≡ piece ++ blanks) × AreBlank blanks

pub comment_piece : (rest comment piece : List ℕ) → starts_comment rest ≡ true → comment ≡ take (prefix_len is_line_byte rest) rest → IsTrimmed comment piece → IsWhole kinds.Comment piece
comment_piece [] comment piece e is t = absurd cc
comment_piece (b ∷ bs) comment piece e is t =
    comment_whole 0 b bs piece t.0 e t.2 (ap (λ n. take n (b ∷ bs)) (sym (comment_prefix b bs e)) ∙ sym is ∙ t.1)

comment_stands : (end : ℕ) (rest left comment piece : List ℕ) → starts_comment rest ≡ true → comment ≡ take (prefix_len is_line_byte rest) rest → left ≡ drop (prefix_len is_line_byte rest) rest → IsTrimmed comment piece
    → StandsThere end kinds.Comment piece rest left
comment_stands end [] left comment piece e is behind t = absurd cc
comment_stands end (b ∷ bs) left comment piece e is behind t =
    let P : List ℕ → Type 0 = λ l. StandsThere end kinds.Comment piece (b ∷ bs) l in
    subst P (ap (λ n. drop n (b ∷ bs)) (sym (comment_prefix b bs e)) ∙ sym behind)
    (comment_there end b bs piece t.0 e t.2 (ap (λ n. take n (b ∷ bs)) (sym (comment_prefix b bs e)) ∙ sym is ∙ t.1))

pub comment_step : (text rest left comment piece : List ℕ) (ps qs : List Piece) → starts_comment rest ≡ true → comment ≡ take (prefix_len is_line_byte rest) rest → left ≡ drop (prefix_len is_line_byte rest) rest → IsTrimmed comment piece
    → tokens_of qs ≡ tokens_of ps ++ tokens_at kinds.Comment piece → marks_of qs ≡ marks_of ps ++ marks piece → AreBefore text rest ps → AreBefore text left qs
comment_step text rest left comment piece ps qs e is behind t tokens bytes h = past_piece text rest left piece kinds.Comment ps qs h (comment_stands (length text) rest left comment piece e is behind t) tokens bytes

pub stream_comment : (end : ℕ) (rest left : List ℕ) → starts_comment rest ≡ true → left ≡ drop (prefix_len is_line_byte rest) rest → lex end 0 rest ≡ lex end 0 left
stream_comment end [] left e is = absurd cc
stream_comment end (b ∷ bs) left e is =
    let k : 37 ≡ b = grind (arith, nat_tests) in
    let there : Blank (1 + prefix_len is_line_byte bs) ≡ front (b ∷ bs) = comment_front bs ∙ ap (λ c. front (c ∷ bs)) k in
    lex_blank end (1 + prefix_len is_line_byte bs) (b ∷ bs) there (omega arith) ∙ ap (λ n. lex end 0 (drop n (b ∷ bs))) (sym (comment_prefix b bs e)) ∙ ap (lex end 0) (sym is)

none_left : (end : ℕ) (t : Lexeme) (s : Stream) → lex end 0 [] ≡ more t s → ⊥
unfolding lex
none_left end t s e = cc

pub next_rest : (end : ℕ) (rest : List ℕ) (t : Lexeme) (s : Stream) → starts_blank rest ≡ false → starts_comment rest ≡ false → lex end 0 rest ≡ more t s → IsNext end t s rest
next_rest end [] t s e f is = absurd (none_left end t s is)
next_rest end (b ∷ bs) t s e f is = next_token end b bs t s e f is

pub no_end_rest : (end p : ℕ) (rest : List ℕ) → starts_blank rest ≡ false → starts_comment rest ≡ false → 0 < length rest → lex end 0 rest ≡ ends p → ⊥
no_end_rest end p [] e f some is = omega (arith, some)
no_end_rest end p (b ∷ bs) e f some is = no_end end b p bs e f is

pub token_piece : (end : ℕ) (rest front : List ℕ) (t : Lexeme) (s : Stream) → IsNext end t s rest → front ≡ take (length t.text) rest → IsWhole (kinds.Token t.kind) front
token_piece end rest front t s next is =
    let P : List ℕ → Type 0 = IsWhole (kinds.Token t.kind) in
    subst P (sym is) (token_whole (length t.text) t.kind rest next.front next.some next.within)

pub token_step : (text rest front back : List ℕ) (t : Lexeme) (s : Stream) (ps qs : List Piece) → IsNext (length text) t s rest → front ≡ take (length t.text) rest → back ≡ drop (length t.text) rest
    → tokens_of qs ≡ tokens_of ps ++ tokens_at (kinds.Token t.kind) front → marks_of qs ≡ marks_of ps ++ marks front → AreBefore text rest ps → AreBefore text back qs
token_step text rest front back t s ps qs next is behind tokens bytes h =
    let P : List ℕ → Type 0 = λ f. StandsThere (length text) (kinds.Token t.kind) f rest (drop (length t.text) rest) in
    let Q : List ℕ → Type 0 = λ b. StandsThere (length text) (kinds.Token t.kind) front rest b in
    let there = subst P (sym is) (token_there (length text) (length t.text) t.kind rest next.front next.some) in
    past_piece text rest back front (kinds.Token t.kind) ps qs h (subst Q (sym behind) there) tokens bytes
