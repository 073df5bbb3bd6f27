-- How the machine goes over bytes, told in tokens: the tokens that it takes, where they lead, and what becomes of the rest. The
-- rest is blanks and perhaps a token of which more may come; or a token that is refused, or passes a limit, follows the blanks.
use Rattle.std.proofs.Common.{◌≡◌, ℕ, ◌+◌, true, false, ◌⊎◌, List, [], ◌∷◌, ◌++◌, length, refl, sym, ap, ◌∙◌, subst, arith, append_assoc}
use Rattle.std.proofs.lemmas.List.{length-append}
use Rattle.cert_text.specs.declared.scan.Token.{Token}
use Rattle.cert_text.specs.declared.scan.Token.TheVariants as tokens
use Rattle.cert_text.specs.declared.scan.Scan.{Scan}
use Rattle.cert_text.specs.declared.scan.Action.{Action}
use Rattle.cert_text.specs.declared.scan.Given.TheVariants as givens
use Rattle.cert_text.specs.Control.{give, fits_word, fits_number}
use Rattle.cert_text.specs.Letters.{is_blank, is_letter, is_digit}
use Rattle.cert_text.specs.Tree.{Built, applied}
use Rattle.cert_text.specs.Reading.{State, Pending, going, malformed, over, whole, idle, letters, digits, after, is_whole}
use Rattle.cert_laws.specs.Spelled.{AreAll, value_behind, IsSpelling, EndsAt}
use Rattle.cert_laws.specs.Refused.{runs_on, IsOfToken}
use Rattle.cert_laws.proofs.Follows.{stopped, as_read}
use Rattle.cert_laws.proofs.Seams.{IsDigits, IsExact}

-- tokens that bytes spell, each ended where what is next begins, and where the control goes along them
abbrev pub Reads : List ℕ → List Token → List ℕ → Scan → Built → Scan → Built → Type 0
Reads bs [] next scan built s b = (bs ≡ []) × (scan ≡ s) × (built ≡ b)
Reads bs (t ∷ ts) next scan built s b =
    (blanks : List ℕ) × (cs : List ℕ) × (rest : List ℕ) × (s1 : Scan) × (a : Action) × (bs ≡ blanks ++ (cs ++ rest)) × AreAll is_blank blanks
    × IsSpelling cs t × EndsAt t (rest ++ next) × IsExact t scan.want cs × (give scan t ≡ givens.On s1 a) × Reads rest ts next s1 (applied a built) s b

-- a token's bytes so far: they may go on to one that may stand there
abbrev pub IsOpen : Scan → Pending → List ℕ → ℕ → Type 0
IsOpen scan idle cs start = cs ≡ []
IsOpen scan (letters at ls) cs start = (cs ≡ ls) × (at ≡ start) × (c : ℕ) × (more : List ℕ) × (ls ≡ c ∷ more) × AreAll is_letter ls × (fits_word scan ls ≡ true)
IsOpen scan (digits at n) cs start =
    (at ≡ start) × (d : ℕ) × (ds : List ℕ) × (cs ≡ d ∷ ds) × AreAll is_digit (d ∷ ds) × (n ≡ stopped (value_behind 0 (d ∷ ds))) × (fits_number scan n ≡ true) × IsDigits scan.want cs

-- bytes of a token that the machine refuses: already these, or as an ended token
abbrev pub IsRefused : Scan → Built → ℕ → List ℕ → List ℕ → Type 0
IsRefused scan built place cs rest =
    (after place (going scan built idle) cs ≡ malformed place)
    ⊎ ((behind : ℕ) × (more : List ℕ) × (rest ≡ behind ∷ more) × (runs_on cs rest ≡ false)
    × ((z : ℕ) → runs_on cs (z ∷ []) ≡ false → after place (going scan built idle) (cs ++ z ∷ []) ≡ malformed place))

abbrev pub HasEnded : Token → List ℕ → Type 0
HasEnded (tokens.Word w) rest = (behind : ℕ) × (more : List ℕ) × (rest ≡ behind ∷ more)
HasEnded (tokens.Number n) rest = (behind : ℕ) × (more : List ℕ) × (rest ≡ behind ∷ more)
HasEnded (tokens.Sign c) rest = Unit {0}

-- what becomes of the bytes behind the tokens that are taken
pub data Last (scan : Scan) (built : Built) (next : List ℕ) (at : ℕ) (q : State) : Type 0 where
  l_open : (blanks cs : List ℕ) (p : Pending) → next ≡ blanks ++ cs → AreAll is_blank blanks → IsOpen scan p cs (at + length blanks) → q ≡ going scan built p → Last scan built next at q
  l_wrong : (blanks cs rest : List ℕ) → next ≡ blanks ++ (cs ++ rest) → AreAll is_blank blanks → IsOfToken cs → IsRefused scan built (at + length blanks) cs rest → q ≡ malformed (at + length blanks) → Last scan built next at q
  l_over : (blanks cs rest : List ℕ) (t : Token) → next ≡ blanks ++ (cs ++ rest) → AreAll is_blank blanks → IsSpelling cs t → EndsAt t rest → HasEnded t rest → give scan (as_read t) ≡ givens.Over → q ≡ over (at + length blanks) → Last scan built next at q
  l_whole : (blanks cs rest : List ℕ) (t : Token) (s1 : Scan) (a : Action) (end : ℕ) → next ≡ blanks ++ (cs ++ rest) → AreAll is_blank blanks → IsSpelling cs t → EndsAt t rest → IsExact t scan.want cs → give scan t ≡ givens.On s1 a → is_whole s1.want ≡ true → q ≡ whole end s1 (applied a built) → Last scan built next at q

abbrev pub Told : List ℕ → ℕ → Scan → Built → State → Type 0
Told bs at scan built q =
    (front : List ℕ) × (ts : List Token) × (next : List ℕ) × (s : Scan) × (b : Built) × (p : ℕ) × (bs ≡ front ++ next) × (p ≡ at + length front)
    × Reads front ts next scan built s b × Last s b next p q × (is_whole s.want ≡ false)

pub last_told : (next : List ℕ) (at : ℕ) (scan : Scan) (built : Built) (q : State) → is_whole scan.want ≡ false → Last scan built next at q → Told next at scan built q
last_told next at scan built q w l = ([], [], next, scan, built, at, refl, omega arith, (refl, refl, refl), l, w)

-- a blank in front

blank_last : (x : ℕ) (next : List ℕ) (p at : ℕ) (scan : Scan) (built : Built) (q : State) → is_blank x ≡ true → p ≡ at + 1 → Last scan built next p q → Last scan built (x ∷ next) at q
blank_last x next p at scan built q h e (l_open blanks cs o f g i j) =
    let m : p + length blanks ≡ at + length (x ∷ blanks) = omega (arith, e) in
    l_open (x ∷ blanks) cs o (ap (λ xs. x ∷ xs) f) (h, g) (subst (IsOpen scan o cs) m i) j
blank_last x next p at scan built q h e (l_wrong blanks cs rest f g i j k) =
    let m : p + length blanks ≡ at + length (x ∷ blanks) = omega (arith, e) in
    l_wrong (x ∷ blanks) cs rest (ap (λ xs. x ∷ xs) f) (h, g) i (subst (λ n. IsRefused scan built n cs rest) m j) (k ∙ ap malformed m)
blank_last x next p at scan built q h e (l_over blanks cs rest t f g i j k l n) =
    let m : p + length blanks ≡ at + length (x ∷ blanks) = omega (arith, e) in
    l_over (x ∷ blanks) cs rest t (ap (λ xs. x ∷ xs) f) (h, g) i j k l (n ∙ ap over m)
blank_last x next p at scan built q h e (l_whole blanks cs rest t s1 a end f g i j k l m n) = l_whole (x ∷ blanks) cs rest t s1 a end (ap (λ xs. x ∷ xs) f) (h, g) i j k l m n

pub blank_told : (x : ℕ) (bs : List ℕ) (at : ℕ) (scan : Scan) (built : Built) (q : State) → is_blank x ≡ true → Told bs (at + 1) scan built q → Told (x ∷ bs) at scan built q
blank_told x bs at scan built q h r = go r.0 r.1 r.2 r.3 r.4 r.5 r.6 r.7 r.8 r.9 r.10 where
  go : (front : List ℕ) (ts : List Token) (next : List ℕ) (s : Scan) (b : Built) (p : ℕ) → bs ≡ front ++ next → p ≡ at + 1 + length front → Reads front ts next scan built s b → Last s b next p q → is_whole s.want ≡ false → Told (x ∷ bs) at scan built q
  go front [] next s b p e f g l w =
      let n : p ≡ at + 1 = f ∙ ap (λ xs. at + 1 + length xs) g.0 ∙ (let z : at + 1 + 0 ≡ at + 1 = omega arith in z) in
      ([], [], x ∷ next, s, b, at, ap (λ xs. x ∷ xs) (e ∙ ap (λ xs. xs ++ next) g.0), omega arith, (refl, g.1, g.2), blank_last x next p at s b q h n l, w)
  go front (t ∷ ts) next s b p e f g l w =
      (x ∷ front, t ∷ ts, next, s, b, p, ap (λ xs. x ∷ xs) e, omega (arith, f), (x ∷ g.0, g.1, g.2, g.3, g.4, ap (λ xs. x ∷ xs) g.5, (h, g.6), g.7, g.8, g.9, g.10, g.11), l, w)

-- a token in front
pub token_told : (cs : List ℕ) (t : Token) (rest : List ℕ) (at then : ℕ) (scan : Scan) (built : Built) (s1 : Scan) (a : Action) (q : State) → then ≡ at + length cs → IsSpelling cs t → EndsAt t rest → IsExact t scan.want cs → give scan t ≡ givens.On s1 a → Told rest then s1 (applied a built) q → Told (cs ++ rest) at scan built q
token_told cs t rest at then scan built s1 a q e sp f x g r =
    let front = r.0 in
    let next = r.2 in
    let len = length-append cs front in
    let place = r.7 in
    (cs ++ front, t ∷ r.1, next, r.3, r.4, r.5, ap (λ xs. cs ++ xs) r.6 ∙ sym (append_assoc cs front next), omega (arith, e, len, place), ([], cs, front, s1, a, refl, tt, sp, subst (EndsAt t) r.6 f, x, g, r.8), r.9, r.10)
