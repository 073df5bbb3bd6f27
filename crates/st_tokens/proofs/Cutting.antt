-- The tokens before a place stand there too where the text goes on otherwise from that place, behind a line feed.
use Rattle.std.proofs.Common.{◌≡◌, ℕ, zero, suc, pred, ◌+◌, ◌-◌, ◌≤◌, List, [], ◌∷◌, ◌++◌, take, length, refl, sym, ap, subst, ◌∙◌, arith}
use Rattle.std.proofs.lemmas.List.{take-append-le}
use Rattle.st_tokens.specs.declared.kind.TokenKind.{TokenKind}
use Rattle.st_tokens.specs.declared.kind.TokenFault.{TokenFault}
use Rattle.st_tokens.specs.declared.kind.TokenFault.TheVariants.{BadByte, LongNumber}
use Rattle.st_tokens.specs.declared.kind.Front.{Front}
use Rattle.st_tokens.specs.declared.kind.Front.TheVariants.{Blank, Whole, Bad, Long}
use Rattle.st_tokens.specs.Text.{front_at, IsWithin}
use Rattle.st_tokens.specs.Stream.{Lexeme, Stream, breaks, more, ◌++>◌, lex, begin, first_place, IsRising}
use Rattle.st_tokens.proofs.Rising.{first_at, rising}
use Rattle.st_tokens.proofs.Fronts.{front_proper, IsFront, front_cut}

through : (ts : List Lexeme) (rest : Stream) → IsRising (ts ++> rest) → first_place (ts ++> rest) ≤ first_place rest
through [] rest h = omega arith
through (t ∷ ts) rest h = omega (arith, h.0, through ts rest h.1)

-- more tokens, behind a first one
tail_of : (t u : Lexeme) (s r : Stream) → more t s ≡ more u r → (t ≡ u) × (s ≡ r)
tail_of t u s r h = (cc, cc)

-- what is passed over ends before the place
passed_before : (end skip : ℕ) (bs : List ℕ) (ts : List Lexeme) (rest : Stream) → length bs ≤ end → skip ≤ length bs → lex end skip bs ≡ ts ++> rest → end - length bs + skip ≤ first_place rest
unfolding lex
passed_before end zero bs ts rest h le e =
    let up : IsRising (ts ++> rest) = let P : Stream → Type 0 = IsRising in subst P e (rising end 0 bs h) in
    let low : end - length bs ≤ first_place (ts ++> rest) = let P : Stream → Type 0 = λ s. end - length bs ≤ first_place s in subst P e (first_at end 0 bs h) in
    omega (arith, up, low, through ts rest up)
passed_before end (suc skip) [] ts rest h le e = absurd (omega arith)
passed_before end (suc skip) (b ∷ bs) ts rest h le e = omega (arith, passed_before end skip bs ts rest (omega arith) (omega arith) e)

abbrev pub lexeme_at : TokenKind → List ℕ → ℕ → Lexeme
lexeme_at kind text start = record { kind = kind; text = text; start = start }

module _ (us : List ℕ) (rest : Stream) where
  -- at the place itself nothing was read behind it
  nothing_left : (ts : List Lexeme) (n : ℕ) (s : Stream) → IsRising s → n ≤ first_place s → first_place rest ≤ n → s ≡ ts ++> rest → ts ≡ []
  nothing_left [] n s up low is e = refl
  nothing_left (t ∷ ts) n s up low is e =
      let up2 : IsRising (t ∷ ts ++> rest) = let P : Stream → Type 0 = IsRising in subst P e up in
      let low2 : n ≤ t.start = let P : Stream → Type 0 = λ m. n ≤ first_place m in subst P e low in
      absurd (omega (arith, up2.0, low2, through ts rest up2.1))

  here : (e2 : ℕ) (ts : List Lexeme) → ts ≡ [] → lex e2 0 (10 ∷ us) ≡ ts ++> lex e2 0 us
  unfolding lex
  here e2 ts h = rw h refl

  more_is : {t u : Lexeme} {s r : Stream} → s ≡ r → t ≡ u → more t s ≡ more u r
  more_is {t} {u} {s} {r} p q = ap (λ x. more x s) q ∙ ap (more u) p

  -- what stands behind the first byte, where that many bytes of it are passed over
  abbrev pub Behind : ℕ → ℕ → ℕ → List ℕ → List ℕ → Type 0
  Behind at end e2 xs ys = (skip : ℕ) (ts : List Lexeme) → skip ≤ length (xs ++ ys) → lex end skip (xs ++ ys) ≡ ts ++> rest → lex e2 skip (xs ++ 10 ∷ us) ≡ ts ++> lex e2 0 us

  module _ (at end e2 b : ℕ) (xs ys : List ℕ) (end_is : end ≡ at + length (b ∷ xs ++ ys)) (e2_is : e2 ≡ at + length (b ∷ xs ++ 10 ∷ us)) (place : first_place rest ≡ at + length (b ∷ xs)) (again : Behind at end e2 xs ys) where
    token_is : (kind : TokenKind) (n : ℕ) → n ≤ 1 + length xs → lexeme_at kind (take n (b ∷ xs ++ 10 ∷ us)) (e2 - length (b ∷ xs ++ 10 ∷ us)) ≡ lexeme_at kind (take n (b ∷ xs ++ ys)) (end - length (b ∷ xs ++ ys))
    token_is kind n le =
        let same : take n (b ∷ xs ++ 10 ∷ us) ≡ take n (b ∷ xs ++ ys) = take-append-le n (b ∷ xs) (10 ∷ us) (omega arith) ∙ sym (take-append-le n (b ∷ xs) ys (omega arith)) in
        let there : e2 - length (b ∷ xs ++ 10 ∷ us) ≡ end - length (b ∷ xs ++ ys) = omega arith in
        ap (λ (text : List ℕ). lexeme_at kind text (e2 - length (b ∷ xs ++ 10 ∷ us))) same ∙ ap (λ (start : ℕ). lexeme_at kind (take n (b ∷ xs ++ ys)) start) there

    -- a token that ends before the place, and what is behind it
    whole_step : (kind : TokenKind) (n : ℕ) (ts : List Lexeme) → Whole kind n ≡ front_at b (xs ++ ys)
        → more (record { kind = kind; text = take n (b ∷ xs ++ ys); start = end - length (b ∷ xs ++ ys) }) (lex end (pred n) (xs ++ ys)) ≡ ts ++> rest
        → lex e2 0 (b ∷ xs ++ 10 ∷ us) ≡ ts ++> lex e2 0 us
    unfolding lex
    whole_step kind n [] is e = absurd (omega (arith, place, end_is, ap first_place e))
    whole_step kind n (t ∷ ts) is e =
        let parts = tail_of (record { kind = kind; text = take n (b ∷ xs ++ ys); start = end - length (b ∷ xs ++ ys) }) t (lex end (pred n) (xs ++ ys)) (ts ++> rest) e in
        let proper : IsWithin (Whole kind n) (1 + length (xs ++ ys)) = let P : Front → Type 0 = λ f. IsWithin f (1 + length (xs ++ ys)) in subst P (sym is) (front_proper b (xs ++ ys)) in
        let before : end - length (xs ++ ys) + pred n ≤ first_place rest = passed_before end (pred n) (xs ++ ys) ts rest (omega arith) (omega (arith, proper.1)) parts.1 in
        let fits : IsFront (1 + length xs) (front_at b (xs ++ ys)) = let P : Front → Type 0 = IsFront (1 + length xs) in subst P is (record { within = omega (arith, proper.0, before, end_is, place); some = proper.0 }) in
        let tokens : more (record { kind = kind; text = take n (b ∷ xs ++ 10 ∷ us); start = e2 - length (b ∷ xs ++ 10 ∷ us) }) (lex e2 (pred n) (xs ++ 10 ∷ us)) ≡ t ∷ ts ++> lex e2 0 us =
        more_is (again (pred n) ts (omega (arith, proper.1)) parts.1) (token_is kind n (omega (arith, proper.0, before, end_is, place)) ∙ parts.0) in
        rw (front_cut b xs ys us fits, ← is) tokens

    -- blanks that end before the place
    blank_step : (n : ℕ) (ts : List Lexeme) → Blank n ≡ front_at b (xs ++ ys) → lex end (pred n) (xs ++ ys) ≡ ts ++> rest → lex e2 0 (b ∷ xs ++ 10 ∷ us) ≡ ts ++> lex e2 0 us
    unfolding lex
    blank_step n ts is e =
        let proper : IsWithin (Blank n) (1 + length (xs ++ ys)) = let P : Front → Type 0 = λ f. IsWithin f (1 + length (xs ++ ys)) in subst P (sym is) (front_proper b (xs ++ ys)) in
        let before : end - length (xs ++ ys) + pred n ≤ first_place rest = passed_before end (pred n) (xs ++ ys) ts rest (omega arith) (omega (arith, proper.1)) e in
        let fits : IsFront (1 + length xs) (front_at b (xs ++ ys)) = let P : Front → Type 0 = IsFront (1 + length xs) in subst P is (record { within = omega (arith, proper.0, before, end_is, place); some = proper.0 }) in
        rw (front_cut b xs ys us fits, ← is) (again (pred n) ts (omega (arith, proper.1)) e)

    -- no fault stands before the place
    fault_step : (f : Front) (ts : List Lexeme) (g : TokenFault) → first_place (breaks g) ≡ end - length (b ∷ xs ++ ys) → breaks g ≡ ts ++> rest → ⊥
    fault_step f [] g is e = omega (arith, place, end_is, is, ap first_place e)
    fault_step f (t ∷ ts) g is e = cc

    front_step : (f : Front) (ts : List Lexeme) → f ≡ front_at b (xs ++ ys) → begin f (end - length (b ∷ xs ++ ys)) (b ∷ xs ++ ys) (λ k. lex end k (xs ++ ys)) ≡ ts ++> rest → lex e2 0 (b ∷ xs ++ 10 ∷ us) ≡ ts ++> lex e2 0 us
    front_step (Blank n) ts is e = blank_step n ts is e
    front_step (Whole kind n) ts is e = whole_step kind n ts is e
    front_step Bad ts is e = absurd (fault_step Bad ts (BadByte (end - length (b ∷ xs ++ ys))) refl e)
    front_step Long ts is e = absurd (fault_step Long ts (LongNumber (end - length (b ∷ xs ++ ys))) refl e)

  pub cut : (at end e2 : ℕ) (xs ys : List ℕ) → end ≡ at + length (xs ++ ys) → e2 ≡ at + length (xs ++ 10 ∷ us) → first_place rest ≡ at + length xs → Behind at end e2 xs ys
  unfolding lex
  cut at end e2 [] ys end_is e2_is place zero ts le e = here e2 ts (nothing_left ts at (lex end 0 ys) (rising end 0 ys (omega arith)) (omega (arith, first_at end 0 ys (omega arith))) (omega arith) e)
  cut at end e2 [] ys end_is e2_is place (suc skip) ts le e = absurd (omega (arith, passed_before end (suc skip) ys ts rest (omega arith) le e))
  cut at end e2 (b ∷ xs) ys end_is e2_is place (suc skip) ts le e = cut (at + 1) end e2 xs ys (omega arith) (omega arith) (omega arith) skip ts (omega arith) e
  cut at end e2 (b ∷ xs) ys end_is e2_is place zero ts le e =
      front_step at end e2 b xs ys end_is e2_is place (λ skip ts le e. cut (at + 1) end e2 xs ys (omega arith) (omega arith) (omega arith) skip ts le e) (front_at b (xs ++ ys)) ts refl e
