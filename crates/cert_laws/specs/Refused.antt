-- Why no block is answered. What is held is compared with the texts of the next block: its number is the next one, a header
-- may stand before it where one may, and limits are left aside. Each answer says how far what is held begins such a text.
use Rattle.std.specs.Prelude.{◌≡◌, ℕ, ◌+◌, ◌<◌, ◌^◌, Bool, true, false, ◌&&◌, ◌||◌, if◌then◌else◌, ◌⊎◌, List, [], ◌∷◌, ◌++◌, length}
use Rattle.cert_text.specs.declared.scan.Token.{Token}
use Rattle.cert_text.specs.Letters.{is_blank, is_letter, is_digit}
use Rattle.cert_text.specs.Grammar.{Written, IsProper, block_tokens, tree_over}
use Rattle.cert_text.specs.Held.{Held, answer_of}
use Rattle.cert_text.specs.Answer.{need, no_more, malformed_at, limit_at}
use Rattle.cert_laws.specs.Spelled.{AreAll, IsSign, IsSpelling, Spells, IsFront}
use Rattle.cert_laws.specs.Limits.{block_marks}

-- a text of the next block, limits aside
abbrev pub IsNext : Held → List ℕ → Type 0
IsNext h text =
    (header : Bool) × (head : List ℕ) × (bs : List ℕ) × (w : Written) × (text ≡ head ++ bs)
    × IsFront header h head × IsProper (header || h.second) w × Spells bs (block_tokens h.number w [])

-- bytes with which such a text begins
abbrev pub Begins : Held → List ℕ → Type 0
Begins h bs = (more : List ℕ) × IsNext h (bs ++ more)

abbrev pub HoldsNone : Held → Type 0
HoldsNone h = (bs rest : List ℕ) → h.bytes ≡ bs ++ rest → IsNext h bs → ⊥

-- only blanks, a whole header counting as one
abbrev pub IsBlankOnly : Held → Type 0
IsBlankOnly h = (header : Bool) × (head : List ℕ) × (blanks : List ℕ) × (h.bytes ≡ head ++ blanks) × IsFront header h head × AreAll is_blank blanks

-- what is held as it stands: a token is ended where a byte stands behind it, and the end of a finished text ends one as a
-- blank does, so a blank is put there
abbrev pub standing : Held → List ℕ
standing h = if h.finished then h.bytes ++ 32 ∷ [] else h.bytes

-- one word or number goes on from the first bytes into the second
abbrev pub runs_on : List ℕ → List ℕ → Bool
runs_on [] ys = false
runs_on (x ∷ []) [] = false
runs_on (x ∷ []) (y ∷ ys) = (is_letter x && is_letter y) || (is_digit x && is_digit y)
runs_on (x ∷ z ∷ xs) ys = runs_on (z ∷ xs) ys

-- bytes of one token: letters, digits, or a sign
abbrev pub IsOfToken : List ℕ → Type 0
IsOfToken cs = (c : ℕ) × (more : List ℕ) × (cs ≡ c ∷ more) × (AreAll is_letter (c ∷ more) ⊎ (AreAll is_digit (c ∷ more) ⊎ (IsSign c × (more ≡ []))))

-- such a text begins with these bytes, and their last token has ended there
abbrev pub BeginsEnded : Held → List ℕ → Type 0
BeginsEnded h bs = (more : List ℕ) × (runs_on bs more ≡ false) × IsNext h (bs ++ more)

-- the token behind these is the first that passes a limit
abbrev pub IsFirstMarked : List Token → List Bool → Type 0
IsFirstMarked ts [] = ⊥
IsFirstMarked [] (m ∷ ms) = m ≡ true
IsFirstMarked (t ∷ ts) (m ∷ ms) = (m ≡ false) × IsFirstMarked ts ms

abbrev pub HasNoMark : List Bool → Type 0
HasNoMark [] = Unit {0}
HasNoMark (m ∷ ms) = (m ≡ false) × HasNoMark ms

-- these bytes and then the token cs spell the beginning of a next block in which cs is the first token that passes a limit
abbrev pub PassesLimit : Held → List ℕ → List ℕ → Type 0
PassesLimit h front cs =
    (header : Bool) × (head : List ℕ) × (bs : List ℕ) × (blanks : List ℕ) × (w : Written) × (ts : List Token) × (t : Token) × (us : List Token)
    × (front ≡ head ++ (bs ++ blanks)) × IsFront header h head × Spells bs ts × AreAll is_blank blanks × IsSpelling cs t
    × (block_tokens h.number w [] ≡ ts ++ t ∷ us) × IsProper (header || h.second) w × IsFirstMarked ts (block_marks w)

-- at this place of the bytes an ended token is the first that passes a limit
abbrev pub LimitAt : Held → List ℕ → ℕ → Type 0
LimitAt h bytes place =
    (front : List ℕ) × (cs : List ℕ) × (behind : ℕ) × (rest : List ℕ) × (bytes ≡ front ++ (cs ++ behind ∷ rest))
    × (runs_on front cs ≡ false) × (runs_on cs (behind ∷ rest) ≡ false) × BeginsEnded h (front ++ cs) × PassesLimit h front cs × (place ≡ h.place + length front)

abbrev pub HasNoLimit : Held → List ℕ → Type 0
HasNoLimit h bytes = (place : ℕ) → LimitAt h bytes place → ⊥

-- a token's bytes with which no block goes on from those before it: however the token goes on, or, where it has ended, as it is
abbrev pub NoneGoesOn : Held → List ℕ → List ℕ → List ℕ → Type 0
NoneGoesOn h front cs rest =
    (Begins h (front ++ cs) → ⊥)
    ⊎ ((behind : ℕ) × (more : List ℕ) × (rest ≡ behind ∷ more) × (runs_on cs rest ≡ false) × (BeginsEnded h (front ++ cs) → ⊥))

-- at this place stands the first token with which no block is begun: those before it begin one
abbrev pub WrongAt : Held → ℕ → Type 0
WrongAt h place =
    (front : List ℕ) × (cs : List ℕ) × (rest : List ℕ) × (standing h ≡ front ++ (cs ++ rest)) × IsOfToken cs × (runs_on front cs ≡ false)
    × Begins h (front ++ 32 ∷ []) × HasNoLimit h (front ++ 32 ∷ []) × NoneGoesOn h front cs rest × (place ≡ h.place + length front)

-- the text is finished in the midst of a block: all tokens together begin one
abbrev pub BreaksOffAt : Held → ℕ → Type 0
BreaksOffAt h place =
    (h.finished ≡ true) × (IsBlankOnly h → ⊥) × Begins h (h.bytes ++ 32 ∷ []) × HasNoLimit h (h.bytes ++ 32 ∷ []) × (place ≡ h.place + length h.bytes)

-- the text is finished, and only blanks are left
abbrev pub IsEnded : Held → Type 0
IsEnded h = (h.finished ≡ true) × IsBlankOnly h

-- the text is open, and what is held begins a block, limits aside; no block is whole, and no ended token passes a limit
abbrev pub NeedsMore : Held → Type 0
NeedsMore h = (h.finished ≡ false) × Begins h h.bytes × HoldsNone h × HasNoLimit h h.bytes

-- The laws: each answer comes exactly where it is true.

abbrev pub Exactly : Type 0 → Type 0 → Type 0
Exactly A B = (A → B) × (B → A)

abbrev pub NeedIsExact : Type 0
NeedIsExact = (h : Held) → h.number < 2 ^ 32 → Exactly (answer_of h ≡ need) (NeedsMore h)

abbrev pub EndIsExact : Type 0
EndIsExact = (h : Held) → h.number < 2 ^ 32 → Exactly (answer_of h ≡ no_more) (IsEnded h)

abbrev pub LimitIsExact : Type 0
LimitIsExact = (h : Held) (place : ℕ) → h.number < 2 ^ 32 → Exactly (answer_of h ≡ limit_at place) (LimitAt h (standing h) place)

abbrev pub MalformedIsExact : Type 0
MalformedIsExact = (h : Held) (place : ℕ) → h.number < 2 ^ 32 → Exactly (answer_of h ≡ malformed_at place) (WrongAt h place ⊎ BreaksOffAt h place)

-- the marks are the limits: each token has one, and a block is within the limits exactly where none of its tokens is marked
abbrev pub MarksAreLimits : Type 0
MarksAreLimits =
    (number : ℕ) (second : Bool) (w : Written) → IsProper second w →
    (length (block_marks w) ≡ length (block_tokens number w [])) × Exactly (tree_over 0 0 w ≡ false) (HasNoMark (block_marks w))
