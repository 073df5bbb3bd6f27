-- The same bytes further on have the same tokens further on; and a text can be written for each list of tokens.
use Rattle.std.proofs.Common.{◌≡◌, ℕ, zero, suc, pred, ◌+◌, ◌-◌, ◌≤◌, List, [], ◌∷◌, ◌++◌, take, drop, length, refl, sym, ap, subst, ◌∙◌, arith, length-append, append-nil, drop-drop, All}
use Rattle.std.proofs.Math.Seq.{drop-append_seam, take-append_seam}
use Rattle.st_tokens.specs.declared.kind.TokenFault.TheVariants.{BadByte, LongNumber}
use Rattle.st_tokens.specs.declared.kind.Front.{Front}
use Rattle.st_tokens.specs.declared.kind.Front.TheVariants.{Blank, Whole, Bad, Long}
use Rattle.st_tokens.specs.Text.{front, front_at}
use Rattle.st_tokens.specs.Stream.{Lexeme, Stream, ends, breaks, more, ◌++>◌, lex, begin, text_stream, first_place, shifted, IsSpelled, written, placed, AreThere}
use Rattle.st_tokens.proofs.Lexing.{lex_whole}
use Rattle.st_tokens.proofs.Fronts.{IsFront, front_cut}
use Rattle.st_tokens.proofs.Cutting.{lexeme_at, cut}

-- the step at the front
shift_front : (d end place place2 : ℕ) (bs : List ℕ) (go go2 : ℕ → Stream) → place2 ≡ d + place → ((k : ℕ) → go2 k ≡ shifted d (go k)) → (f : Front) → begin f place2 bs go2 ≡ shifted d (begin f place bs go)
shift_front d end place place2 bs go go2 is same (Blank n) = same (pred n)
shift_front d end place place2 bs go go2 is same (Whole kind n) = ap (λ p. more (lexeme_at kind (take n bs) p) (go2 (pred n))) is ∙ ap (more (lexeme_at kind (take n bs) (d + place))) (same (pred n))
shift_front d end place place2 bs go go2 is same Bad = ap (λ p. breaks (BadByte p)) is
shift_front d end place place2 bs go go2 is same Long = ap (λ p. breaks (LongNumber p)) is

shift : (d end skip : ℕ) (bs : List ℕ) → length bs ≤ end → lex (d + end) skip bs ≡ shifted d (lex end skip bs)
unfolding lex
shift d end skip [] h = refl
shift d end (suc skip) (b ∷ bs) h = shift d end skip bs (omega arith)
shift d end zero (b ∷ bs) h = shift_front d end (end - length (b ∷ bs)) (d + end - length (b ∷ bs)) (b ∷ bs) (λ k. lex end k bs) (λ k. lex (d + end) k bs) (omega arith) (λ k. shift d end k bs (omega arith)) (front_at b bs)

pub texts_go_on : (xs ys us : List ℕ) (ts : List Lexeme) (rest : Stream) → text_stream (xs ++ ys) ≡ ts ++> rest → first_place rest ≡ length xs → text_stream (xs ++ 10 ∷ us) ≡ ts ++> shifted (length xs + 1) (text_stream us)
texts_go_on xs ys us ts rest e place =
    let all : length (xs ++ 10 ∷ us) ≡ length xs + 1 + length us = omega (arith, length-append {A = ℕ}) in
    cut us rest 0 (length (xs ++ ys)) (length (xs ++ 10 ∷ us)) xs ys (omega arith) (omega arith) (omega arith) 0 ts (omega arith) e
    ∙ ap (λ n. ts ++> lex n 0 us) all
    ∙ ap (λ s. ts ++> s) (shift (length xs + 1) (length us) 0 us (omega arith))

behind_feed : (end : ℕ) (us : List ℕ) → lex end 0 (10 ∷ us) ≡ lex end 0 us
unfolding lex
behind_feed end us = refl

-- a token and a line feed behind it, in front of a text
one_token : (t : Lexeme) (end : ℕ) (us : List ℕ) → IsSpelled t → length (t.text ++ 10 ∷ us) ≤ end
    → lex end 0 (t.text ++ 10 ∷ us) ≡ more (lexeme_at t.kind t.text (end - length (t.text ++ 10 ∷ us))) (lex end 0 us)
one_token t end us h le = at_text t.text refl
  where
    at_text : (bs : List ℕ) → bs ≡ t.text → lex end 0 (t.text ++ 10 ∷ us) ≡ more (lexeme_at t.kind t.text (end - length (t.text ++ 10 ∷ us))) (lex end 0 us)
    at_text [] e = let bad : Bad ≡ Whole t.kind (length t.text) = ap front e ∙ h in cc
    at_text (b ∷ bs) e =
        let is : front_at b (bs ++ []) ≡ Whole t.kind (length t.text) = rw append-nil (ap front e ∙ h) in
        let long : length t.text ≡ 1 + length bs = let k : length t.text ≡ length (b ∷ bs) = ap length (sym e) in omega arith in
        let proper : IsFront (1 + length bs) (Whole t.kind (length t.text)) = record { within = omega arith; some = omega arith } in
        let fits : IsFront (1 + length bs) (front_at b (bs ++ [])) = let P : Front → Type 0 = IsFront (1 + length bs) in subst P (sym is) proper in
        let front_is : front (t.text ++ 10 ∷ us) ≡ Whole t.kind (length t.text) = ap (λ z. front (z ++ 10 ∷ us)) (sym e) ∙ front_cut b bs [] us fits ∙ is in
        lex_whole end (length t.text) t.kind (t.text ++ 10 ∷ us) (sym front_is) (omega arith)
        ∙ ap (λ z. more (lexeme_at t.kind z (end - length (t.text ++ 10 ∷ us))) (lex end 0 (drop (length t.text) (t.text ++ 10 ∷ us)))) (take-append_seam t.text (10 ∷ us))
        ∙ ap (λ z. more (lexeme_at t.kind t.text (end - length (t.text ++ 10 ∷ us))) (lex end 0 z)) (drop-append_seam t.text (10 ∷ us))
        ∙ ap (more (lexeme_at t.kind t.text (end - length (t.text ++ 10 ∷ us)))) (behind_feed end us)

written_from : (place end : ℕ) (ts : List Lexeme) → All IsSpelled ts → end ≡ place + length (written ts) → lex end 0 (written ts) ≡ placed place ts
unfolding lex
written_from place end [] h e = ap ends (omega arith)
written_from place end (t ∷ ts) h e =
    one_token t end (written ts) (h 0 t (omega arith)) (omega arith)
    ∙ ap (λ p. more (lexeme_at t.kind t.text p) (lex end 0 (written ts))) (omega arith)
    ∙ ap (more (lexeme_at t.kind t.text place)) (written_from (place + length t.text + 1) end ts (λ k d le. h (suc k) d (omega arith)) (omega (arith, length-append {A = ℕ})))

pub tokens_are_written : (ts : List Lexeme) → All IsSpelled ts → text_stream (written ts) ≡ placed 0 ts
tokens_are_written ts h = written_from 0 (length (written ts)) ts h (omega arith)

-- the bytes behind the first of those that are left
next_bytes : (text : List ℕ) (b : ℕ) (bs : List ℕ) → b ∷ bs ≡ drop (length text - length (b ∷ bs)) text → length (b ∷ bs) ≤ length text → bs ≡ drop (length text - length bs) text
next_bytes text b bs is h =
    let e : bs ≡ drop 1 (drop (length text - length (b ∷ bs)) text) = ap (drop 1) is in
    e ∙ drop-drop 1 (length text - length (b ∷ bs)) text ∙ ap (λ n. drop n text) (omega arith)

there_front : (text : List ℕ) (b : ℕ) (bs : List ℕ) → b ∷ bs ≡ drop (length text - length (b ∷ bs)) text → length (b ∷ bs) ≤ length text → (go : ℕ → Stream) → ((k : ℕ) → AreThere text (go k)) → (f : Front) → f ≡ front_at b bs
    → AreThere text (begin f (length text - length (b ∷ bs)) (b ∷ bs) go)
there_front text b bs is h go all (Blank n) e = all (pred n)
there_front text b bs is h go all (Whole kind n) e = ((n, ap front (sym is) ∙ sym e, ap (take n) is), all (pred n))
there_front text b bs is h go all Bad e = tt
there_front text b bs is h go all Long e = tt

-- of what is left of the text
there_from : (text : List ℕ) (skip : ℕ) (bs : List ℕ) → bs ≡ drop (length text - length bs) text → length bs ≤ length text → AreThere text (lex (length text) skip bs)
unfolding lex
there_from text skip [] is h = tt
there_from text (suc skip) (b ∷ bs) is h = there_from text skip bs (next_bytes text b bs is h) (omega arith)
there_from text zero (b ∷ bs) is h = there_front text b bs is h (λ k. lex (length text) k bs) (λ k. there_from text k bs (next_bytes text b bs is h) (omega arith)) (front_at b bs) refl

pub tokens_are_there : (text : List ℕ) → AreThere text (text_stream text)
tokens_are_there text =
    let none : 0 ≡ length text - length text = omega arith in
    there_from text 0 text (ap (λ n. drop n text) none) (omega arith)
