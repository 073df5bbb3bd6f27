-- Which bytes spell which tokens: the lexical half of the grammar of certificate texts. The other half, which tokens a block
-- has, is Grammar of cert_text.
use Rattle.std.specs.Prelude.{◌≡◌, ℕ, ◌+◌, ◌-◌, ◌*◌, Bool, true, false, nat_lt, List, [], ◌∷◌, ◌++◌, codes}
use Rattle.cert_text.specs.declared.scan.Word.{Word}
use Rattle.cert_text.specs.declared.scan.Word.TheVariants as words
use Rattle.cert_text.specs.declared.scan.Token.{Token}
use Rattle.cert_text.specs.declared.scan.Token.TheVariants as tokens
use Rattle.cert_text.specs.Letters.{is_blank, is_letter, is_digit}
use Rattle.cert_text.specs.Held.{Held}

abbrev pub letters_of : Word → List ℕ
letters_of words.Version = codes "version"
letters_of words.Cert = codes "cert"
letters_of words.Absurd = codes "absurd"
letters_of words.Farkas = codes "farkas"
letters_of words.Linear = codes "linear"
letters_of words.Case = codes "case"
letters_of words.Truth = codes "bool"
letters_of words.Split = codes "split"
letters_of words.Cut = codes "cut"

abbrev pub AreAll : (ℕ → Bool) → List ℕ → Type 0
AreAll test [] = Unit {0}
AreAll test (b ∷ bs) = (test b ≡ true) × AreAll test bs

-- the number in base 10 whose digits are those of n and then these
abbrev pub value_behind : ℕ → List ℕ → ℕ
value_behind n [] = n
value_behind n (d ∷ ds) = value_behind (n * 10 + (d - 48)) ds

-- a byte that is a token by itself
abbrev pub IsSign : ℕ → Type 0
IsSign c = (is_blank c ≡ false) × (is_letter c ≡ false) × (is_digit c ≡ false)

-- a word by its letters; a number by its digits, one or more, with any zeros in front; a sign by its byte
abbrev pub IsSpelling : List ℕ → Token → Type 0
IsSpelling cs (tokens.Word w) = cs ≡ letters_of w
IsSpelling cs (tokens.Number n) = (d : ℕ) × (ds : List ℕ) × (cs ≡ d ∷ ds) × AreAll is_digit (d ∷ ds) × (value_behind 0 (d ∷ ds) ≡ n)
IsSpelling cs (tokens.Sign c) = (cs ≡ c ∷ []) × IsSign c

-- a token that ends where these bytes follow: no further letter of a word, no further digit of a number
abbrev pub EndsAt : Token → List ℕ → Type 0
EndsAt t [] = Unit {0}
EndsAt (tokens.Word w) (b ∷ bs) = is_letter b ≡ false
EndsAt (tokens.Number n) (b ∷ bs) = is_digit b ≡ false
EndsAt (tokens.Sign c) (b ∷ bs) = Unit {0}

-- bytes that spell tokens, each with any blanks in front of it
abbrev pub Spells : List ℕ → List Token → Type 0
Spells bs [] = bs ≡ []
Spells bs (t ∷ ts) =
    (blanks : List ℕ) × (cs : List ℕ) × (rest : List ℕ) × (bs ≡ blanks ++ (cs ++ rest))
    × AreAll is_blank blanks × IsSpelling cs t × EndsAt t rest × Spells rest ts

-- the header of version 2, with any blanks in front of each token; its number is one digit
abbrev pub IsHeader : List ℕ → Type 0
IsHeader head =
    (front : List ℕ) × (between : List ℕ) × (behind : List ℕ)
    × (head ≡ front ++ (codes "version" ++ (between ++ 50 ∷ (behind ++ 59 ∷ []))))
    × AreAll is_blank front × AreAll is_blank between × AreAll is_blank behind

-- nothing, or a header where one may stand: before the first block of a text of version 1
abbrev pub IsFront : Bool → Held → List ℕ → Type 0
IsFront false h head = head ≡ []
IsFront true h head = (nat_lt h.number 2 ≡ true) × (h.second ≡ false) × IsHeader head
