-- Bytes that spell tokens, apart behind any token and together behind a ";".
use Rattle.std.proofs.Common.{◌≡◌, ℕ, List, [], ◌∷◌, ◌++◌, refl, sym, ap, ◌∙◌, subst, append_assoc}
use Rattle.cert_text.specs.declared.scan.Word.{Word}
use Rattle.cert_text.specs.declared.scan.Word.TheVariants as words
use Rattle.cert_text.specs.declared.scan.Token.{Token}
use Rattle.cert_text.specs.declared.scan.Token.TheVariants as tokens
use Rattle.cert_laws.specs.Spelled.{letters_of, IsSpelling, EndsAt, Spells}

regrouped : (a b c d : List ℕ) → (a ++ (b ++ c)) ++ d ≡ a ++ (b ++ (c ++ d))
regrouped a b c d = append_assoc a (b ++ c) d ∙ ap (λ l. a ++ l) (append_assoc b c d)

-- a token that ends where bytes follow ends where fewer do
ends_less : (t : Token) (xs ys : List ℕ) → EndsAt t (xs ++ ys) → EndsAt t xs
ends_less t [] ys h = none t where
  none : (u : Token) → EndsAt u []
  none u = tt
ends_less (tokens.Word w) (x ∷ xs) ys h = h
ends_less (tokens.Number n) (x ∷ xs) ys h = h
ends_less (tokens.Sign c) (x ∷ xs) ys h = tt

-- and where more do behind them
ends_more : (t : Token) (x : ℕ) (xs ys : List ℕ) → EndsAt t (x ∷ xs) → EndsAt t (x ∷ xs ++ ys)
ends_more (tokens.Word w) x xs ys h = h
ends_more (tokens.Number n) x xs ys h = h
ends_more (tokens.Sign c) x xs ys h = tt

ends_sign : (c : ℕ) (rest : List ℕ) → EndsAt (tokens.Sign c) rest
ends_sign c [] = tt
ends_sign c (b ∷ bs) = tt

-- no token is spelled by nothing
record Some (cs : List ℕ) : Type 0 where
  first : ℕ
  others : List ℕ
  is : cs ≡ first ∷ others

letters_some : (w : Word) → Some (letters_of w)
letters_some words.Version = record { first = _; others = _; is = refl }
letters_some words.Cert = record { first = _; others = _; is = refl }
letters_some words.Absurd = record { first = _; others = _; is = refl }
letters_some words.Farkas = record { first = _; others = _; is = refl }
letters_some words.Linear = record { first = _; others = _; is = refl }
letters_some words.Case = record { first = _; others = _; is = refl }
letters_some words.Truth = record { first = _; others = _; is = refl }
letters_some words.Split = record { first = _; others = _; is = refl }
letters_some words.Cut = record { first = _; others = _; is = refl }

token_some : (t : Token) (cs : List ℕ) → IsSpelling cs t → Some cs
token_some (tokens.Word w) cs s = let r = letters_some w in record { first = r.first; others = r.others; is = s ∙ r.is }
token_some (tokens.Number n) cs s = record { first = s.0; others = s.1; is = s.2 }
token_some (tokens.Sign c) cs s = record { first = c; others = []; is = s.0 }

in_front : (blanks cs rest : List ℕ) → Some cs → Some (blanks ++ (cs ++ rest))
in_front [] cs rest s = record { first = s.first; others = s.others ++ rest; is = ap (λ l. l ++ rest) s.is }
in_front (b ∷ blanks) cs rest s = record { first = b; others = blanks ++ (cs ++ rest); is = refl }

spelled_some : (bs : List ℕ) (t : Token) (ts : List Token) → Spells bs (t ∷ ts) → Some bs
spelled_some bs t ts h = let r = in_front h.0 h.1 h.2 (token_some t h.1 h.5) in record { first = r.first; others = r.others; is = h.3 ∙ r.is }

-- apart
pub record Parted (bs : List ℕ) (ts us : List Token) : Type 0 where
  pub front : List ℕ
  pub behind : List ℕ
  pub split : bs ≡ front ++ behind
  pub first : Spells front ts
  pub second : Spells behind us

pub parted : (ts us : List Token) (bs : List ℕ) → Spells bs (ts ++ us) → Parted bs ts us
parted [] us bs h = record { front = []; behind = bs; split = refl; first = refl; second = h }
parted (t ∷ ts) us bs h =
    let r = parted ts us h.2 h.7 in
    record {
      front = h.0 ++ (h.1 ++ r.front);
      behind = r.behind;
      split = h.3 ∙ ap (λ l. h.0 ++ (h.1 ++ l)) r.split ∙ sym (regrouped h.0 h.1 r.front r.behind);
      first = (h.0, h.1, r.front, refl, h.4, h.5, ends_less t r.front r.behind (subst (EndsAt t) r.split h.6), r.first);
      second = r.second;
    }

-- together
pub joined : (ts us : List Token) (xs ys : List ℕ) → Spells xs (ts ++ tokens.Sign 59 ∷ []) → Spells ys us → Spells (xs ++ ys) (ts ++ tokens.Sign 59 ∷ us)
joined [] us xs ys h g = (h.0, h.1, h.2 ++ ys, ap (λ l. l ++ ys) h.3 ∙ regrouped h.0 h.1 h.2 ys, h.4, h.5, ends_sign 59 (h.2 ++ ys), subst (λ l. Spells (l ++ ys) us) (sym h.7) g)
joined (t ∷ ts) us xs ys h g = (h.0, h.1, h.2 ++ ys, ap (λ l. l ++ ys) h.3 ∙ regrouped h.0 h.1 h.2 ys, h.4, h.5, ends (some ts h.7), joined ts us h.2 ys h.7 g) where
  some : (vs : List Token) → Spells h.2 (vs ++ tokens.Sign 59 ∷ []) → Some h.2
  some [] k = spelled_some h.2 (tokens.Sign 59) [] k
  some (v ∷ vs) k = spelled_some h.2 v (vs ++ tokens.Sign 59 ∷ []) k

  ends : Some h.2 → EndsAt t (h.2 ++ ys)
  ends s = subst (λ l. EndsAt t (l ++ ys)) (sym s.is) (ends_more t s.first s.others ys (subst (EndsAt t) s.is h.6))
