-- What the machine has not refused begins a text of the next block.
use Rattle.std.proofs.Common.{◌≡◌, ℕ, ◌+◌, ◌<◌, ◌^◌, Bool, true, false, cond, ◌&&◌, inl, inr, List, [], ◌∷◌, ◌++◌, length, refl, sym, ap, ◌∙◌, subst, nat_lt, append_assoc}
use Rattle.std.proofs.lemmas.List.{append-nil}
use Rattle.cert_text.specs.declared.scan.Word.TheVariants as words
use Rattle.cert_text.specs.declared.scan.Token.{Token}
use Rattle.cert_text.specs.declared.scan.Token.TheVariants as tokens
use Rattle.cert_text.specs.declared.scan.Want.TheVariants as wants
use Rattle.cert_text.specs.declared.scan.Scan.{Scan}
use Rattle.cert_text.specs.Control.{fits_number_at}
use Rattle.cert_text.specs.Letters.{is_blank}
use Rattle.cert_text.specs.Tree.{Built, applied}
use Rattle.cert_text.specs.Reading.{Pending, going, malformed, over, whole, idle, letters, digits, after, start, is_whole}
use Rattle.cert_text.specs.Run.{scan_at}
use Rattle.cert_text.specs.Grammar.{tree_tokens, block_tokens}
use Rattle.cert_text.specs.Held.{Held}
use Rattle.cert_text.proofs.LeafReads.{built_at}
use Rattle.cert_laws.specs.Spelled.{AreAll, EndsAt, Spells}
use Rattle.cert_laws.specs.Refused.{IsNext, Begins}
use Rattle.cert_laws.proofs.Givens.{OnlyOn}
use Rattle.cert_laws.proofs.Stays.{Keeps, number_keeps}
use Rattle.cert_laws.proofs.HeaderRead.{blank_no_letter, blank_no_digit}
use Rattle.cert_laws.proofs.Ends.{none_open}
use Rattle.cert_laws.proofs.Seams.{IsDigits}
use Rattle.cert_laws.proofs.Told.{Reads, IsOpen, Last, l_open, l_wrong, l_over, l_whole, Told}
use Rattle.cert_laws.proofs.Telling.{told}
use Rattle.cert_laws.proofs.Tails.{TailOf, ABlock, Joins, tail_back}
use Rattle.cert_laws.proofs.Opens.{tail_starts}
use Rattle.cert_laws.proofs.OpenWords.{opens_word}
use Rattle.cert_laws.proofs.OpenNumbers.{opens_number}

pub both : (a second : Bool) → (a && cond second false true) ≡ true → (a ≡ true) × (second ≡ false)
both true false h = (refl, refl)
both true true h = absurd (no h) where
  no : false ≡ true → ⊥
  no e = cc
both false true h = absurd (no h) where
  no : false ≡ true → ⊥
  no e = cc
both false false h = absurd (no h) where
  no : false ≡ true → ⊥
  no e = cc

abbrev pub first_of : Held → Bool
first_of h = nat_lt h.number 2 && cond h.second false true

abbrev pub Start : Held → Scan
Start h = scan_at h.number h.second (wants.Block (first_of h)) 0 0

abbrev pub none_built : Built
none_built = built_at [] []

block_text : (h : Held) (second : Bool) (bs : List ℕ) (b : ABlock h.number second 0 bs) → Spells bs (block_tokens h.number b.0 [])
block_text h second bs b = subst (λ k. Spells bs (tokens.Word words.Cert ∷ tokens.Number h.number ∷ tree_tokens b.0 k)) (none_open second 0 b.1 b.3 refl) b.4

-- what completes a text from its start on is one
pub is_next : (h : Held) (text : List ℕ) → TailOf h.number (Start h) text → IsNext h text
is_next h text (inl b) = (false, [], text, b.0, refl, refl, b.2, block_text h h.second text b)
is_next h text (inr t) =
    let front = both (nat_lt h.number 2) h.second t.0 in
    let b = t.1.4 in
    (true, t.1.0, t.1.1, b.0, t.1.2, (front.0, front.1, t.1.3), b.2, block_text h true t.1.1 b)

-- bytes that end what is next to end

blank_ends : (t : Token) (x : ℕ) (more : List ℕ) → is_blank x ≡ true → EndsAt t (x ∷ more)
blank_ends (tokens.Word w) x more h = blank_no_letter x h
blank_ends (tokens.Number n) x more h = blank_no_digit x h
blank_ends (tokens.Sign c) x more h = tt

pub joins_blanks : (next blanks more : List ℕ) → AreAll is_blank blanks → (t : Token) (xs : List ℕ) → EndsAt t (xs ++ next) → EndsAt t (xs ++ (blanks ++ 32 ∷ more))
joins_blanks next [] more b t [] e = blank_ends t 32 more refl
joins_blanks next (x ∷ blanks) more b t [] e = blank_ends t x (blanks ++ 32 ∷ more) b.0
joins_blanks next blanks more b (tokens.Word w) (x ∷ xs) e = e
joins_blanks next blanks more b (tokens.Number n) (x ∷ xs) e = e
joins_blanks next blanks more b (tokens.Sign c) (x ∷ xs) e = tt

-- the first byte stays
pub same_first : (t : Token) (xs ys zs : List ℕ) (x : ℕ) → ys ≡ x ∷ xs → EndsAt t ys → EndsAt t (ys ++ zs)
same_first (tokens.Word w) xs ys zs x e h = subst (λ l. EndsAt (tokens.Word w) (l ++ zs)) (sym e) (subst (EndsAt (tokens.Word w)) e h)
same_first (tokens.Number n) xs ys zs x e h = subst (λ l. EndsAt (tokens.Number n) (l ++ zs)) (sym e) (subst (EndsAt (tokens.Number n)) e h)
same_first (tokens.Sign c) xs ys zs x e h = subst (λ l. EndsAt (tokens.Sign c) (l ++ zs)) (sym e) tt

abbrev pub IsSome : List ℕ → Type 0
IsSome bs = (x : ℕ) × (xs : List ℕ) × (bs ≡ x ∷ xs)

pub some_joined : (xs ys : List ℕ) → IsSome ys → IsSome (xs ++ ys)
some_joined [] ys h = h
some_joined (x ∷ xs) ys h = (x, xs ++ ys, refl)

pub joins_more : (next more : List ℕ) → IsSome next → (t : Token) (xs : List ℕ) → EndsAt t (xs ++ next) → EndsAt t (xs ++ (next ++ more))
joins_more next more s t xs e = let f = some_joined xs next s in subst (EndsAt t) (append_assoc xs next more) (same_first t f.1 (xs ++ next) more f.0 f.2 e)

all_joined : (bs : List ℕ) → AreAll is_blank bs → AreAll is_blank (bs ++ 32 ∷ [])
all_joined [] a = (refl, tt)
all_joined (x ∷ bs) a = (a.0, all_joined bs a.1)

module _ (h : Held) where
  -- tokens that were taken, then blanks: a text goes on from there
  pub front_begins : (ts : List Token) (front next blanks : List ℕ) (s : Scan) (b : Built) → Reads front ts next (Start h) none_built s b → AreAll is_blank blanks → is_whole s.want ≡ false → s.number ≡ h.number → Begins h ((front ++ blanks) ++ 32 ∷ [])
  front_begins ts front next blanks s b r c w n =
      let t = tail_starts h.number s.second s.want s.depth (blanks ++ 32 ∷ []) (all_joined blanks c) w in
      let q = append_assoc blanks (32 ∷ []) t.0 in
      (t.0, is_next h _ (subst (TailOf h.number (Start h)) (regroup t.0) (tail_back h.number ts front next (blanks ++ 32 ∷ t.0) (Start h) none_built s b refl r (joins_blanks next blanks t.0 c) (subst (TailOf h.number s) q t.1)))) where
        regroup : (m : List ℕ) → front ++ (blanks ++ 32 ∷ m) ≡ ((front ++ blanks) ++ 32 ∷ []) ++ m
        regroup m = sym (append_assoc (front ++ blanks) (32 ∷ []) m ∙ append_assoc front blanks (32 ∷ m))

  abbrev Opened : List ℕ → List ℕ → Scan → Type 0
  Opened next more s = Joins h.number next (next ++ more) × TailOf h.number s (next ++ more)

  opens : (next blanks cs : List ℕ) (at : ℕ) (p : Pending) (s : Scan) → h.number < 2 ^ 32 → s.number ≡ h.number → is_whole s.want ≡ false → next ≡ blanks ++ cs → AreAll is_blank blanks → IsOpen s p cs at → (more : List ℕ) × Opened next more s
  opens next blanks cs at idle s l n w e b o =
      let t = tail_starts h.number s.second s.want s.depth (blanks ++ 32 ∷ []) (all_joined blanks b) w in
      let q = append_assoc blanks (32 ∷ []) t.0 ∙ ap (λ xs. xs ++ 32 ∷ t.0) (sym (e ∙ ap (λ c. blanks ++ c) o ∙ append-nil blanks)) in
      let j = λ (u : Token) (xs : List ℕ) (f : EndsAt u (xs ++ next)). subst (λ ys. EndsAt u (xs ++ ys)) (sym (append_assoc blanks (32 ∷ []) t.0) ∙ q) (joins_blanks next blanks t.0 b u xs f) in
      (32 ∷ t.0, (j, subst (TailOf h.number s) q t.1))
  opens next blanks cs at (letters st ls) s l n w e b o =
      let t = opens_word h.number s.second s.depth s.trees blanks b s.want ls o.6 in
      let q = ap (λ c. blanks ++ (c ++ t.0)) (sym o.0) ∙ sym (append_assoc blanks cs t.0) ∙ ap (λ xs. xs ++ t.0) (sym e) in
      let some = some_joined blanks cs (o.2, o.3, o.0 ∙ o.4) in
      (t.0, (joins_more next t.0 (some.0, some.1, e ∙ some.2), subst (TailOf h.number s) q t.1))
  opens next blanks cs at (digits st m) s l n w e b o =
      let t = opens_number h.number s.second s.depth s.trees blanks b o.1 o.2 o.4 s.want m l o.5 (subst (IsDigits s.want) o.3 o.7) (subst (λ k. fits_number_at s.want k m ≡ true) n o.6) in
      let q = ap (λ c. blanks ++ (c ++ t.0)) (sym o.3) ∙ sym (append_assoc blanks cs t.0) ∙ ap (λ xs. xs ++ t.0) (sym e) in
      let some = some_joined blanks cs (o.1, o.2, o.3) in
      (t.0, (joins_more next t.0 (some.0, some.1, e ∙ some.2), subst (TailOf h.number s) q t.1))

pub same_number : (ts : List Token) (front next : List ℕ) (scan : Scan) (built : Built) (s : Scan) (b : Built) → Reads front ts next scan built s b → s.number ≡ scan.number
same_number [] front next scan built s b r = ap (λ q. q.number) (sym r.1)
same_number (t ∷ ts) front next scan built s b r = same_number ts r.2 next r.3 (applied r.4 built) s b r.11 ∙ subst (OnlyOn (Keeps scan.number)) r.10 (number_keeps scan.want scan t)

-- what is going begins a text
pub going_begins : (h : Held) (bytes : List ℕ) (s : Scan) (b : Built) (p : Pending) → h.number < 2 ^ 32 → after h.place (start h.number h.second) bytes ≡ going s b p → Begins h bytes
going_begins h bytes s b p l e = by (told bytes h.place (Start h) none_built (l, refl)) where
  open_from : (front : List ℕ) (ts : List Token) (next : List ℕ) (s1 : Scan) (b1 : Built) (at : ℕ) → bytes ≡ front ++ next → Reads front ts next (Start h) none_built s1 b1 → is_whole s1.want ≡ false → Last s1 b1 next at (after h.place (start h.number h.second) bytes) → Begins h bytes
  open_from front ts next s1 b1 at f r w (l_open blanks cs o n c i q) =
      let t = opens h next blanks cs (at + length blanks) o s1 l (same_number ts front next (Start h) none_built s1 b1 r) w n c i in
      (t.0, is_next h (bytes ++ t.0) (subst (TailOf h.number (Start h)) (sym (ap (λ xs. xs ++ t.0) f ∙ append_assoc front next t.0)) (tail_back h.number ts front next (next ++ t.0) (Start h) none_built s1 b1 refl r t.1.0 t.1.1)))
  open_from front ts next s1 b1 at f r w (l_wrong blanks cs rest n c i j q) = absurd (apart (sym e ∙ q)) where
    apart : going s b p ≡ malformed (at + length blanks) → ⊥
    apart g = cc
  open_from front ts next s1 b1 at f r w (l_over blanks cs rest t n c i j k o q) = absurd (apart (sym e ∙ q)) where
    apart : going s b p ≡ over (at + length blanks) → ⊥
    apart g = cc
  open_from front ts next s1 b1 at f r w (l_whole blanks cs rest t s2 a end n c i j k g z q) = absurd (apart (sym e ∙ q)) where
    apart : going s b p ≡ whole end s2 (applied a b1) → ⊥
    apart f2 = cc

  by : Told bytes h.place (Start h) none_built (after h.place (start h.number h.second) bytes) → Begins h bytes
  by r = open_from r.0 r.1 r.2 r.3 r.4 r.5 r.6 r.8 r.10 r.9
