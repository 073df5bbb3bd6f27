-- Pieces that are written down are read again.
use Rattle.std.proofs.Common.{◌≡◌, ℕ, zero, suc, pred, ◌+◌, ◌-◌, ◌≤◌, ◌<◌, List, [], ◌∷◌, ◌++◌, take, drop, length, get_or, take_all, Option, Some, None, refl, sym, ap, subst, ◌∙◌, arith, append_assoc, append-nil}
use Rattle.std.proofs.Math.Seq.{drop-append_seam, take-append_seam, take-suc}
use Rattle.st_tokens.specs.declared.kind.TokenKind.{TokenKind}
use Rattle.st_tokens.specs.declared.kind.TokenFault.{TokenFault}
use Rattle.st_tokens.specs.declared.kind.TokenFault.TheVariants.{BadByte, LongNumber}
use Rattle.st_tokens.specs.declared.kind.Front.{Front}
use Rattle.st_tokens.specs.declared.kind.Front.TheVariants.{Blank, Whole, Bad, Long}
use Rattle.st_tokens.specs.Text.{front_at}
use Rattle.st_tokens.specs.Stream.{Lexeme, Stream, ends, breaks, more, ◌++>◌, begin, lex, text_stream}
use Rattle.st_tokens.proofs.Lexing.{lex_blank, lex_whole}
use Rattle.st_tokens.proofs.Fronts.{front_cut, IsFront}
use Rattle.text_layouts.specs.declared.kind.PieceKind.{PieceKind}
use Rattle.text_layouts.specs.declared.kind.PieceKind.TheVariants as kinds
use Rattle.text_layouts.specs.declared.piece.Piece.{Piece}
use Rattle.text_layouts.specs.Same.{mark_of, marks, IsSame, AreSame, SaysTheSame}
use Rattle.text_layouts.specs.Refused.{first_fault}
use Rattle.text_layouts.specs.Whole.{Ends, IsWhole, front_of}
use Rattle.text_layouts.specs.Pieces.{tokens_at, tokens_of, marks_of, AreBefore, ArePieces}
use Rattle.text_layouts.specs.Written.{AreBlank, EndsIn, IsGap, Writes}
use Rattle.text_layouts.proofs.Reading.{marks_append, marks_blank, onto_append, lex_blanks}

widths : (n m : ℕ) → Blank n ≡ Blank m → n ≡ m
widths n m e = cc

-- a piece has a byte
pub has_some : (kind : PieceKind) (text : List ℕ) → IsWhole kind text → 0 < length text
has_some (kinds.Token kind) [] h = absurd cc
has_some kinds.Comment [] h = let e : 1 ≡ 0 = widths 1 0 h in absurd (omega (arith, e))
has_some kind (b ∷ bs) h = omega arith

-- a piece is read again
pub read_piece : (kind : PieceKind) (text behind : List ℕ) → IsWhole kind text → Ends kind text behind → lex 0 0 (text ++ behind) ≡ tokens_at kind text ++> lex 0 0 behind
read_piece (kinds.Token kind) text behind h e =
    let first : 0 - length (text ++ behind) ≡ 0 = omega arith in
    lex_whole 0 (length text) kind (text ++ behind) (sym e) (has_some (kinds.Token kind) text h)
    ∙ ap (λ (start : ℕ). more (record { kind = kind; text = take (length text) (text ++ behind); start = start }) (lex 0 0 (drop (length text) (text ++ behind)))) first
    ∙ ap (λ (z : List ℕ). more (record { kind = kind; text = z; start = 0 }) (lex 0 0 (drop (length text) (text ++ behind)))) (take-append_seam text behind)
    ∙ ap (λ z. more (record { kind = kind; text = text; start = 0 }) (lex 0 0 z)) (drop-append_seam text behind)
read_piece kinds.Comment text behind h e =
    lex_blank 0 (length text) (text ++ behind) (sym e) (has_some kinds.Comment text h) ∙ ap (lex 0 0) (drop-append_seam text behind)

fits : (kind : PieceKind) (n m : ℕ) → 0 < n → n ≤ m → IsFront m (front_of kind n)
fits (kinds.Token kind) n m some le = record { within = le; some = some }
fits kinds.Comment n m some le = record { within = le; some = some }

-- a line feed ends each piece
pub feed_ends : (kind : PieceKind) (text us : List ℕ) → IsWhole kind text → Ends kind text (10 ∷ us)
feed_ends kind [] us h = absurd (omega (arith, has_some kind [] h))
feed_ends kind (b ∷ xs) us h =
    let P : Front → Type 0 = IsFront (1 + length xs) in
    front_cut b xs (10 ∷ []) us (subst P (sym h) (fits kind (length (b ∷ xs)) (1 + length xs) (omega arith) (omega arith))) ∙ h

tokens_append : (ps qs : List Piece) → tokens_of (ps ++ qs) ≡ tokens_of ps ++ tokens_of qs
tokens_append [] qs = refl
tokens_append (p ∷ ps) qs = ap (λ ts. tokens_at p.kind p.text.now ++ ts) (tokens_append ps qs) ∙ sym (append_assoc (tokens_at p.kind p.text.now) (tokens_of ps) (tokens_of qs))

marks_of_append : (ps qs : List Piece) → marks_of (ps ++ qs) ≡ marks_of ps ++ marks_of qs
marks_of_append [] qs = refl
marks_of_append (p ∷ ps) qs = ap (λ ts. marks p.text.now ++ ts) (marks_of_append ps qs) ∙ sym (append_assoc (marks p.text.now) (marks_of ps) (marks_of qs))

pub writes_none : (old : List ℕ) → Writes old old [] None
writes_none old = record { added = []; is = sym (append-nil old); tokens = λ behind e. refl; bytes = refl }

-- blanks at the head of a line
pub writes_blanks : (old new gap : List ℕ) → AreBlank gap → new ≡ old ++ gap → Writes old new [] None
writes_blanks old new gap h is = record { added = gap; is = is; tokens = λ behind e. lex_blanks 0 gap behind h; bytes = marks_blank gap h }

-- a line behind others
pub writes_more : (a b c : List ℕ) (ps qs : List Piece) (last : Option Piece) → Writes a b ps None → Writes b c qs last → Writes a c (ps ++ qs) last
writes_more a b c ps qs last f g = record {
  added = f.added ++ g.added;
  is = g.is ∙ ap (λ z. z ++ g.added) f.is ∙ append_assoc a f.added g.added;
  tokens = λ behind e. ap (lex 0 0) (append_assoc f.added g.added behind) ∙ f.tokens (g.added ++ behind) tt ∙ ap (λ s. tokens_of ps ++> s) (g.tokens behind e)
      ∙ sym (onto_append (tokens_of ps) (tokens_of qs) (lex 0 0 behind)) ∙ ap (λ ts. ts ++> lex 0 0 behind) (sym (tokens_append ps qs));
  bytes = marks_append f.added g.added ∙ ap (λ m. m ++ marks g.added) f.bytes ∙ ap (λ m. marks_of ps ++ m) g.bytes ∙ sym (marks_of_append ps qs);
}

-- a piece behind a gap
pub writes_piece : (a b c gap : List ℕ) (ps : List Piece) (last : Option Piece) (p : Piece) → Writes a b ps last → IsGap last gap p.text.now → c ≡ (b ++ gap) ++ p.text.now → Writes a c (ps ++ p ∷ []) (Some p)
writes_piece a b c gap ps last p f g is = record {
  added = f.added ++ (gap ++ p.text.now);
  is = is ∙ append_assoc b gap p.text.now ∙ ap (λ z. z ++ (gap ++ p.text.now)) f.is ∙ append_assoc a f.added (gap ++ p.text.now);
  tokens = λ behind e. ap (lex 0 0) (append_assoc f.added (gap ++ p.text.now) behind)
      ∙ f.tokens ((gap ++ p.text.now) ++ behind) (let P : List ℕ → Type 0 = EndsIn last in subst P (sym (append_assoc gap p.text.now behind)) (g.apart behind))
      ∙ ap (λ s. tokens_of ps ++> s) (ap (lex 0 0) (append_assoc gap p.text.now behind) ∙ lex_blanks 0 gap (p.text.now ++ behind) g.blank ∙ read_piece p.kind p.text.now behind p.whole e)
      ∙ sym (onto_append (tokens_of ps) (tokens_at p.kind p.text.now) (lex 0 0 behind))
      ∙ ap (λ ts. ts ++> lex 0 0 behind) (ap (λ ts. tokens_of ps ++ ts) (sym (append-nil (tokens_at p.kind p.text.now))) ∙ sym (tokens_append ps (p ∷ [])));
  bytes = marks_append f.added (gap ++ p.text.now) ∙ ap (λ m. m ++ marks (gap ++ p.text.now)) f.bytes
      ∙ ap (λ m. marks_of ps ++ m) (marks_append gap p.text.now ∙ ap (λ m. m ++ marks p.text.now) (marks_blank gap g.blank) ∙ sym (append-nil (marks p.text.now))) ∙ sym (marks_of_append ps (p ∷ []));
}

ends_by_feed : (last : Option Piece) (us : List ℕ) → EndsIn last (10 ∷ us)
ends_by_feed None us = tt
ends_by_feed (Some p) us = feed_ends p.kind p.text.now us p.whole

-- the end of a line
pub writes_feed : (a b c : List ℕ) (ps : List Piece) (last : Option Piece) → Writes a b ps last → c ≡ b ++ 10 ∷ [] → Writes a c ps None
writes_feed a b c ps last f e = record {
  added = f.added ++ 10 ∷ [];
  is = e ∙ ap (λ z. z ++ 10 ∷ []) f.is ∙ append_assoc a f.added (10 ∷ []);
  tokens = λ behind e. ap (lex 0 0) (append_assoc f.added (10 ∷ []) behind) ∙ f.tokens (10 ∷ behind) (ends_by_feed last behind) ∙ ap (λ s. tokens_of ps ++> s) (lex_blanks 0 (10 ∷ []) behind (refl, tt));
  bytes = marks_append f.added (10 ∷ []) ∙ append-nil (marks f.added) ∙ f.bytes;
}

abbrev flat_fault : TokenFault → TokenFault
flat_fault (BadByte place) = BadByte 0
flat_fault (LongNumber place) = LongNumber 0

abbrev flat_lexeme : Lexeme → Lexeme
flat_lexeme t = record { kind = t.kind; text = t.text; start = 0 }

-- without places
abbrev flat : Stream → Stream
flat (ends place) = ends 0
flat (breaks f) = breaks (flat_fault f)
flat (more t s) = more (record { kind = t.kind; text = t.text; start = 0 }) (flat s)

flat_front : (end place : ℕ) (bs : List ℕ) (go none : ℕ → Stream) → place ≡ 0 → ((k : ℕ) → flat (go k) ≡ none k) → (f : Front) → flat (begin f end bs go) ≡ begin f place bs none
flat_front end place bs go none e same (Blank n) = same (pred n)
flat_front end place bs go none e same (Whole kind n) = ap (more (record { kind = kind; text = take n bs; start = 0 })) (same (pred n)) ∙ ap (λ (start : ℕ). more (record { kind = kind; text = take n bs; start = start }) (none (pred n))) (sym e)
flat_front end place bs go none e same Bad = ap (λ p. breaks (BadByte p)) (sym e)
flat_front end place bs go none e same Long = ap (λ p. breaks (LongNumber p)) (sym e)

flat_lex : (end skip : ℕ) (bs : List ℕ) → flat (lex end skip bs) ≡ lex 0 skip bs
unfolding lex
flat_lex end skip [] = refl
flat_lex end (suc skip) (b ∷ bs) = flat_lex end skip bs
flat_lex end zero (b ∷ bs) = flat_front (end - length (b ∷ bs)) (0 - length (b ∷ bs)) (b ∷ bs) (λ k. lex end k bs) (λ k. lex 0 k bs) (omega arith) (λ k. flat_lex end k bs) (front_at b bs)

tokens_same : (t u : Lexeme) (s r : Stream) → flat (more t s) ≡ flat (more u r) → IsSame t u × (flat s ≡ flat r)
tokens_same t u s r h =
    let e : flat_lexeme t ≡ flat_lexeme u = cc in
    ((ap (λ (x : Lexeme). x.kind) e, ap (λ (x : Lexeme). x.text) e), cc)

same_flat : (s r : Stream) → flat s ≡ flat r → first_fault s ≡ None → AreSame s r
same_flat (ends p) (ends q) e h = tt
same_flat (ends p) (breaks f) e h = absurd cc
same_flat (ends p) (more u r) e h = absurd cc
same_flat (breaks f) r e h = absurd cc
same_flat (more t s) (ends q) e h = absurd cc
same_flat (more t s) (breaks f) e h = absurd cc
same_flat (more t s) (more u r) e h = let both = tokens_same t u s r e in (both.0, same_flat s r both.1 h)

no_fault : (end : ℕ) → first_fault (lex end 0 []) ≡ None
unfolding lex
no_fault end = refl

-- the pieces of a text, written down one behind the other, say the same
pub says_the_same : (text out : List ℕ) (ps : List Piece) → ArePieces text ps → Writes [] out ps None → SaysTheSame text out
says_the_same text out ps h w =
    let read : lex 0 0 out ≡ lex 0 0 text = ap (lex 0 0) (w.is ∙ sym (append-nil w.added)) ∙ w.tokens [] tt ∙ sym h.tokens in
    let flats : flat (text_stream text) ≡ flat (text_stream out) = flat_lex (length text) 0 text ∙ sym read ∙ sym (flat_lex (length out) 0 out) in (
      same_flat (text_stream text) (text_stream out) flats (h.fault ∙ no_fault (length text)),
      h.bytes ∙ append-nil (marks_of ps) ∙ sym w.bytes ∙ ap marks (sym w.is),
    )

-- more blanks at the head of a line
pub writes_further : (a b c gap : List ℕ) → Writes a b [] None → AreBlank gap → c ≡ b ++ gap → Writes a c [] None
writes_further a b c gap f h is = writes_more a b c [] [] None f (writes_blanks b c gap h is)

taken_none : (n : ℕ) → take {A = Piece} n [] ≡ []
taken_none zero = refl
taken_none (suc n) = refl

taken : (i n : ℕ) (qs : List Piece) → take i qs ++ take n (drop i qs) ≡ take (i + n) qs
taken zero n qs = let e : n ≡ zero + n = omega arith in ap (λ k. take k qs) e
taken (suc i) n [] = taken_none n ∙ sym (taken_none (suc i + n))
taken (suc i) n (q ∷ qs) = let e : suc (i + n) ≡ suc i + n = omega arith in ap (λ z. q ∷ z) (taken i n qs) ∙ ap (λ k. take k (q ∷ qs)) e

-- one line more
pub writes_line : (a b c : List ℕ) (ps : List Piece) (passed n : ℕ) (rest : List Piece) → rest ≡ drop passed ps → Writes a b (take passed ps) None → Writes b c (take n rest) None → Writes a c (take (passed + n) ps) None
writes_line a b c ps passed n rest is f g =
    let P : List Piece → Type 0 = λ qs. Writes a c qs None in
    subst P (ap (λ qs. take passed ps ++ take n qs) is ∙ taken passed n ps) (writes_more a b c (take passed ps) (take n rest) None f g)

-- the first line of some pieces, behind blanks
pub writes_front : (a b c : List ℕ) (ps qs : List Piece) (n : ℕ) → Writes a b [] None → Writes b c qs None → qs ≡ take n ps → length qs ≡ n → Writes a c (take (length qs) ps) None
writes_front a b c ps qs n f g is long =
    let P : List Piece → Type 0 = λ rs. Writes a c rs None in
    subst P (is ∙ ap (λ k. take k ps) (sym long)) (writes_more a b c [] qs None f g)

-- one piece more
pub writes_next : (a b c gap : List ℕ) (ps : List Piece) (i n : ℕ) (last : Option Piece) (p : Piece) → n ≡ suc i → Writes a b (take i ps) last → IsGap last gap p.text.now → c ≡ (b ++ gap) ++ p.text.now → i < length ps → p ≡ get_or ps i p
    → Writes a c (take n ps) (Some p)
writes_next a b c gap ps i n last p next f g is within there =
    let e : take i ps ++ p ∷ [] ≡ take n ps = ap (λ q. take i ps ++ q ∷ []) there ∙ sym (take-suc ps i p within) ∙ ap (λ k. take k ps) (sym next) in
    let P : List Piece → Type 0 = λ qs. Writes a c qs (Some p) in
    subst P e (writes_piece a b c gap (take i ps) last p f g is)

-- one piece more in a list
pub tokens_snoc : (ps qs : List Piece) (p : Piece) → qs ≡ ps ++ p ∷ [] → tokens_of qs ≡ tokens_of ps ++ tokens_at p.kind p.text.now
tokens_snoc ps qs p e = ap tokens_of e ∙ tokens_append ps (p ∷ []) ∙ ap (λ ts. tokens_of ps ++ ts) (append-nil (tokens_at p.kind p.text.now))

pub marks_snoc : (ps qs : List Piece) (p : Piece) → qs ≡ ps ++ p ∷ [] → marks_of qs ≡ marks_of ps ++ marks p.text.now
marks_snoc ps qs p e = ap marks_of e ∙ marks_of_append ps (p ∷ []) ∙ ap (λ ts. marks_of ps ++ ts) (append-nil (marks p.text.now))

-- the last line
pub writes_all : (a b : List ℕ) (ps : List Piece) (n : ℕ) → length ps ≤ n → Writes a b (take n ps) None → Writes a b ps None
writes_all a b ps n within f = let P : List Piece → Type 0 = λ qs. Writes a b qs None in subst P (take_all n ps within) f
