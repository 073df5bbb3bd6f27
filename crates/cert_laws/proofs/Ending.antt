-- Where one token ends and what stands next begins: of bytes that were taken, and in the words of the laws.
use Rattle.std.proofs.Common.{◌≡◌, ℕ, true, false, ◌&&◌, ◌||◌, List, [], ◌∷◌, ◌++◌, refl, sym, ap, ◌∙◌, subst, arith, append_assoc}
use Rattle.std.proofs.lemmas.List.{append-nil}
use Rattle.std.proofs.lemmas.Bool.Decides.{nat_tests}
use Rattle.cert_text.specs.declared.scan.Word.{Word}
use Rattle.cert_text.specs.declared.scan.Word.TheVariants as words
use Rattle.cert_text.specs.declared.scan.Token.{Token}
use Rattle.cert_text.specs.declared.scan.Token.TheVariants as tokens
use Rattle.cert_text.specs.declared.scan.Scan.{Scan}
use Rattle.cert_text.specs.Letters.{is_blank, is_letter, is_digit}
use Rattle.cert_text.specs.Tree.{Built, applied}
use Rattle.cert_laws.specs.Spelled.{letters_of, AreAll, IsSpelling, EndsAt, IsSign, Spells}
use Rattle.cert_laws.specs.Refused.{runs_on}
use Rattle.cert_laws.proofs.Seams.{letters_stop, digits_stop, letters_end, digits_end}
use Rattle.cert_laws.proofs.Told.{Reads}

pub letters_all : (w : Word) → AreAll is_letter (letters_of w)
letters_all words.Version = (refl, (refl, (refl, (refl, (refl, (refl, (refl, tt)))))))
letters_all words.Cert = (refl, (refl, (refl, (refl, tt))))
letters_all words.Absurd = (refl, (refl, (refl, (refl, (refl, (refl, tt))))))
letters_all words.Farkas = (refl, (refl, (refl, (refl, (refl, (refl, tt))))))
letters_all words.Linear = (refl, (refl, (refl, (refl, (refl, (refl, tt))))))
letters_all words.Case = (refl, (refl, (refl, (refl, tt))))
letters_all words.Truth = (refl, (refl, (refl, (refl, tt))))
letters_all words.Split = (refl, (refl, (refl, (refl, (refl, tt)))))
letters_all words.Cut = (refl, (refl, (refl, tt)))

pub runs_none : (xs : List ℕ) → runs_on xs [] ≡ false
runs_none [] = refl
runs_none (x ∷ []) = refl
runs_none (x ∷ z ∷ xs) = runs_none (z ∷ xs)

-- only the last byte in front counts
pub runs_behind : (xs : List ℕ) (c : ℕ) (cs ys : List ℕ) → runs_on (xs ++ c ∷ cs) ys ≡ runs_on (c ∷ cs) ys
runs_behind [] c cs ys = refl
runs_behind (x ∷ []) c cs ys = refl
runs_behind (x ∷ z ∷ xs) c cs ys = runs_behind (z ∷ xs) c cs ys

-- and the first byte behind
pub runs_first : (xs : List ℕ) (y : ℕ) (ys zs : List ℕ) → runs_on xs (y ∷ ys) ≡ runs_on xs (y ∷ zs)
runs_first [] y ys zs = refl
runs_first (x ∷ []) y ys zs = refl
runs_first (x ∷ z ∷ xs) y ys zs = runs_first (z ∷ xs) y ys zs

sign_stops : (c y : ℕ) → IsSign c → ((is_letter c && is_letter y) || (is_digit c && is_digit y)) ≡ false
sign_stops c y h = grind (arith, nat_tests, h)

blank_starts : (c y : ℕ) → is_blank y ≡ true → ((is_letter c && is_letter y) || (is_digit c && is_digit y)) ≡ false
blank_starts c y h = grind (arith, nat_tests)

blank_stops : (c y : ℕ) → is_blank c ≡ true → ((is_letter c && is_letter y) || (is_digit c && is_digit y)) ≡ false
blank_stops c y h = grind (arith, nat_tests)

-- no token runs on into a blank, nor a blank into a token
pub runs_to_blank : (xs : List ℕ) (y : ℕ) (ys : List ℕ) → is_blank y ≡ true → runs_on xs (y ∷ ys) ≡ false
runs_to_blank [] y ys h = refl
runs_to_blank (x ∷ []) y ys h = blank_starts x y h
runs_to_blank (x ∷ z ∷ xs) y ys h = runs_to_blank (z ∷ xs) y ys h

pub runs_from_blanks : (xs : List ℕ) (b : ℕ) (bs ys : List ℕ) → AreAll is_blank (b ∷ bs) → runs_on (xs ++ b ∷ bs) ys ≡ false
runs_from_blanks xs b bs ys h = runs_behind xs b bs ys ∙ alone b bs ys h where
  one : (c : ℕ) (zs : List ℕ) → is_blank c ≡ true → runs_on (c ∷ []) zs ≡ false
  one c [] k = refl
  one c (z ∷ zs) k = blank_stops c z k

  alone : (c : ℕ) (cs zs : List ℕ) → AreAll is_blank (c ∷ cs) → runs_on (c ∷ cs) zs ≡ false
  alone c [] zs k = one c zs k.0
  alone c (d ∷ cs) zs k = alone d cs zs k.1

-- an ended token doesn't run on, and the other way round

word_stops : (w : Word) (cs : List ℕ) (y : ℕ) (ys : List ℕ) → cs ≡ letters_of w → is_letter y ≡ false → runs_on cs (y ∷ ys) ≡ false
word_stops w cs y ys e h = ap (λ xs. runs_on xs (y ∷ ys)) e ∙ letters_stop (letters_of w) y ys (letters_all w) h

pub ended_stops : (t : Token) (cs next : List ℕ) → IsSpelling cs t → EndsAt t next → runs_on cs next ≡ false
ended_stops t cs [] sp f = runs_none cs
ended_stops (tokens.Word w) cs (y ∷ ys) sp f = word_stops w cs y ys sp f
ended_stops (tokens.Number n) cs (y ∷ ys) sp f = ap (λ xs. runs_on xs (y ∷ ys)) sp.2 ∙ digits_stop (sp.0 ∷ sp.1) y ys sp.3 f
ended_stops (tokens.Sign c) cs (y ∷ ys) sp f = ap (λ xs. runs_on xs (y ∷ ys)) sp.0 ∙ sign_stops c y sp.1

abbrev First : List ℕ → Type 0
First xs = (c : ℕ) × (cs : List ℕ) × (xs ≡ c ∷ cs)

word_first : (w : Word) → First (letters_of w)
word_first words.Version = (_, _, refl)
word_first words.Cert = (_, _, refl)
word_first words.Absurd = (_, _, refl)
word_first words.Farkas = (_, _, refl)
word_first words.Linear = (_, _, refl)
word_first words.Case = (_, _, refl)
word_first words.Truth = (_, _, refl)
word_first words.Split = (_, _, refl)
word_first words.Cut = (_, _, refl)

pub token_first : (t : Token) (cs : List ℕ) → IsSpelling cs t → First cs
token_first (tokens.Word w) cs sp = let f = word_first w in (f.0, f.1, sp ∙ f.2)
token_first (tokens.Number n) cs sp = (sp.0, sp.1, sp.2)
token_first (tokens.Sign c) cs sp = (c, [], sp.0)

pub stops_ended : (t : Token) (cs next : List ℕ) → IsSpelling cs t → runs_on cs next ≡ false → EndsAt t next
stops_ended t cs [] sp f = none t where
  none : (u : Token) → EndsAt u []
  none u = tt
stops_ended (tokens.Word w) cs (y ∷ ys) sp f =
    let g = word_first w in
    letters_end g.0 g.1 y ys (subst (AreAll is_letter) g.2 (letters_all w)) (ap (λ xs. runs_on xs (y ∷ ys)) (sym (sp ∙ g.2)) ∙ f)
stops_ended (tokens.Number n) cs (y ∷ ys) sp f = digits_end sp.0 sp.1 y ys sp.3 (ap (λ xs. runs_on xs (y ∷ ys)) (sym sp.2) ∙ f)
stops_ended (tokens.Sign c) cs (y ∷ ys) sp f = tt

-- bytes of tokens that were taken don't run on into what is next
pub taken_stops : (ts : List Token) (front next : List ℕ) (scan : Scan) (built : Built) (s : Scan) (b : Built) → Reads front ts next scan built s b → runs_on front next ≡ false
taken_stops [] front next scan built s b r = ap (λ xs. runs_on xs next) r.0
taken_stops (t ∷ ts) front next scan built s b r = by r.2 refl (taken_stops ts r.2 next r.3 (applied r.4 built) s b r.11) where
  by : (rest : List ℕ) → r.2 ≡ rest → runs_on r.2 next ≡ false → runs_on front next ≡ false
  by (x ∷ xs) e h = ap (λ ys. runs_on ys next) (r.5 ∙ ap (λ zs. r.0 ++ (r.1 ++ zs)) e ∙ sym (append_assoc r.0 r.1 (x ∷ xs))) ∙ runs_behind (r.0 ++ r.1) x xs next ∙ ap (λ ys. runs_on ys next) (sym e) ∙ h
  by [] e h =
      let g = token_first t r.1 r.7 in
      ap (λ ys. runs_on ys next) (r.5 ∙ ap (λ zs. r.0 ++ (r.1 ++ zs)) e ∙ ap (λ zs. r.0 ++ zs) (append-nil r.1 ∙ g.2))
      ∙ runs_behind r.0 g.0 g.1 next ∙ ap (λ ys. runs_on ys next) (sym g.2)
      ∙ ended_stops t r.1 next r.7 (subst (λ zs. EndsAt t (zs ++ next)) e r.8)

-- blanks behind them change nothing
pub front_stops : (ts : List Token) (front blanks ys : List ℕ) (scan : Scan) (built : Built) (s : Scan) (b : Built) → Reads front ts (blanks ++ ys) scan built s b → AreAll is_blank blanks → runs_on (front ++ blanks) ys ≡ false
front_stops ts front [] ys scan built s b r h = ap (λ xs. runs_on xs ys) (append-nil front) ∙ taken_stops ts front ys scan built s b r
front_stops ts front (x ∷ blanks) ys scan built s b r h = runs_from_blanks front x blanks ys h

-- what was taken is spelled
pub spelled_less : (t : Token) (rest next : List ℕ) → EndsAt t (rest ++ next) → EndsAt t rest
spelled_less t [] next h = none t where
  none : (u : Token) → EndsAt u []
  none u = tt
spelled_less (tokens.Word w) (x ∷ rest) next h = h
spelled_less (tokens.Number n) (x ∷ rest) next h = h
spelled_less (tokens.Sign c) (x ∷ rest) next h = tt

pub taken_spells : (ts : List Token) (front next : List ℕ) (scan : Scan) (built : Built) (s : Scan) (b : Built) → Reads front ts next scan built s b → Spells front ts
taken_spells [] front next scan built s b r = r.0
taken_spells (t ∷ ts) front next scan built s b r = (r.0, r.1, r.2, r.5, r.6, r.7, spelled_less t r.2 next r.8, taken_spells ts r.2 next r.3 (applied r.4 built) s b r.11)
