-- Where no text goes on is determined by the text.
use Rattle.std.proofs.Common.{◌≡◌, List, [], ◌∷◌, ◌++◌, refl, sym, ap, subst, ◌∙◌, append_assoc, append-nil}
use Rattle.st_tokens.specs.Stream.{◌++>◌, Lexeme, Stream, ends, breaks, more}
use Rattle.st_reading.specs.Reading.{Stop, syntax, broken, other, refusal}
use Rattle.st_reading.specs.Theorem.{IsStuck, IsFirst}
use Rattle.st_reading.proofs.Streams.{more_parts}

-- two cuts of a stream
pub data Compared (a b : List Lexeme) (s r : Stream) : Type 0 where
  shorter : (c : List Lexeme) → b ≡ a ++ c → s ≡ c ++> r → Compared a b s r
  longer : (u : Lexeme) (c : List Lexeme) → a ≡ b ++ u ∷ c → r ≡ more u (c ++> s) → Compared a b s r

deeper : (t u : Lexeme) (a b : List Lexeme) (s r : Stream) → t ≡ u → Compared a b s r → Compared (t ∷ a) (u ∷ b) s r
deeper t u a b s r e (shorter c h k) = shorter c (ap (λ w. w ∷ b) (sym e) ∙ ap (λ w. t ∷ w) h) k
deeper t u a b s r e (longer v c h k) = longer v c (ap (λ w. w ∷ a) e ∙ ap (λ w. u ∷ w) h) k

pub compare : (a b : List Lexeme) (s r : Stream) → a ++> s ≡ b ++> r → Compared a b s r
compare [] b s r h = shorter b refl h
compare (t ∷ a) [] s r h = longer t a refl (sym h)
compare (t ∷ a) (u ∷ b) s r h = let m = more_parts t u (a ++> s) (b ++> r) h in deeper t u a b s r m.0 (compare a b s r m.1)

regroup : (a c us : List Lexeme) (u : Lexeme) → (a ++ u ∷ c) ++ us ≡ (a ++ u ∷ []) ++ (c ++ us)
regroup a c us u = append_assoc a (u ∷ c) us ∙ sym (append_assoc a (u ∷ []) (c ++ us))

module _ {X A : Type 0} (L : List Lexeme → A → Type 0) where
  abbrev pub Plain : Stop X → Type 0
  Plain f = (x : X) → f ≡ other x → ⊥

  told_by : (ts : List Lexeme) (f : Stop X) (rest : Stream) → Plain f → IsStuck L ts f rest → f ≡ refusal rest
  told_by ts (broken g) rest q h = ap refusal (sym h)
  told_by ts (syntax place) (ends end) q h = ap syntax h.0
  told_by ts (syntax place) (breaks g) q h = absurd h
  told_by ts (syntax place) (more t s) q h = ap syntax h.0
  told_by ts (other x) rest q h = absurd (q x refl)

  no_further : (ts : List Lexeme) (f : Stop X) (u : Lexeme) (s : Stream) → Plain f → IsStuck L ts f (more u s) → (us : List Lexeme) (x : A) → L ((ts ++ u ∷ []) ++ us) x → ⊥
  no_further ts (broken g) u s q h us x l = let bad : more u s ≡ breaks g = h in absurd cc
  no_further ts (syntax place) u s q h us x l = h.1 (us, x, l)
  no_further ts (other y) u s q h us x l = q y refl

  -- one text isn't longer than another that doesn't go on
  not_beyond : (a b : List Lexeme) (f : Stop X) (s : Stream) (u : Lexeme) (c us : List Lexeme) (x : A) → Plain f → (rest : Stream) → s ≡ more u rest → IsStuck L a f s → b ≡ a ++ u ∷ c → L (b ++ us) x → ⊥
  not_beyond a b f s u c us x q rest next stuck e l =
      no_further a f u rest q (subst (IsStuck L a f) next stuck) (c ++ us) x (subst (λ (z : List Lexeme). L z x) (ap (λ (z : List Lexeme). z ++ us) e ∙ regroup a c us u) l)

  pub first_unique : (s : Stream) (f g : Stop X) → Plain f → Plain g → IsFirst L s f → IsFirst L s g → f ≡ g
  first_unique s f g q r h k = at_compared (compare h.text k.text h.rest k.rest (sym h.is ∙ k.is))
    where
      at_compared : Compared h.text k.text h.rest k.rest → f ≡ g
      at_compared (shorter [] e n) = told_by h.text f h.rest q h.stuck ∙ ap refusal n ∙ sym (told_by k.text g k.rest r k.stuck)
      at_compared (shorter (u ∷ c) e n) = absurd (not_beyond h.text k.text f h.rest u c k.begins.0 k.begins.2 q (c ++> k.rest) n h.stuck e k.begins.3)
      at_compared (longer u c e n) = absurd (not_beyond k.text h.text g k.rest u c h.begins.0 h.begins.2 r (c ++> h.rest) n k.stuck e h.begins.3)

  -- it goes over each token over which a text goes on
  pub beyond : (s : Stream) (f : Stop X) → Plain f → (h : IsFirst L s f) → (front : List Lexeme) (t : Lexeme) (rest : Stream) → s ≡ front ++> more t rest → (us : List Lexeme) (x : A) → L ((front ++ t ∷ []) ++ us) x → (others : List Lexeme) × (h.text ≡ front ++ t ∷ others)
  beyond s f q h front t rest is us x l = at_compared (compare h.text front h.rest (more t rest) (sym h.is ∙ is))
    where
      at_compared : Compared h.text front h.rest (more t rest) → (others : List Lexeme) × (h.text ≡ front ++ t ∷ others)
      at_compared (shorter [] e n) =
          let same : front ++ t ∷ [] ≡ h.text ++ t ∷ [] = ap (λ (z : List Lexeme). z ++ t ∷ []) (e ∙ append-nil h.text) in
          absurd (not_beyond h.text (front ++ t ∷ []) f h.rest t [] us x q rest n h.stuck same l)
      at_compared (shorter (u ∷ c) e n) =
          let same : front ++ t ∷ [] ≡ h.text ++ u ∷ (c ++ t ∷ []) = ap (λ (z : List Lexeme). z ++ t ∷ []) e ∙ append_assoc h.text (u ∷ c) (t ∷ []) in
          absurd (not_beyond h.text (front ++ t ∷ []) f h.rest u (c ++ t ∷ []) us x q (c ++> more t rest) n h.stuck same l)
      at_compared (longer u c e n) = let m = more_parts t u rest (c ++> h.rest) n in (c, e ∙ ap (λ w. front ++ w ∷ c) (sym m.0))
