-- The laws of certificate texts: what is spelled is read, so is what is written, and only what is spelled is read. What is held
-- begins with bytes; the answer is that of next_block, and what is held behind it begins right behind them, whatever follows.
-- An answer that doesn't ask for more is that of the whole text.
use Rattle.std.specs.Prelude.{◌≡◌, ℕ, ◌+◌, ◌^◌, ◌<◌, Bool, true, false, nat_lt, ◌||◌, List, [], ◌∷◌, ◌++◌, length}
use Rattle.st_certificate.specs.Tree.{Tree}
use Rattle.cert_text.specs.Grammar.{Written, IsBlock, block_tokens, meaning}
use Rattle.cert_text.specs.Held.{Held, answer_of, taken_from}
use Rattle.cert_text.specs.Blank.{past_blanks}
use Rattle.cert_text.specs.Answer.{block, need}
use Rattle.cert_text.specs.Spelling.{block_text}
use Rattle.cert_laws.specs.Spelled.{Spells, IsHeader, IsFront}

-- bytes that spell the next block, within the limits, are read as its tree
abbrev pub SpelledIsRead : Type 0
SpelledIsRead =
    (h : Held) (w : Written) (bs rest : List ℕ) →
    h.number < 2 ^ 32 → IsBlock h.number h.second w → Spells bs (block_tokens h.number w []) → h.bytes ≡ bs ++ rest →
    (answer_of h ≡ block h.number (meaning w))
    × (taken_from h ≡ record h { bytes = rest; place = h.place + length bs; number = h.number + 1 })

-- behind a header they are read by the rules of version 2, from then on
abbrev pub HeaderIsRead : Type 0
HeaderIsRead =
    (h : Held) (w : Written) (head bs rest : List ℕ) →
    nat_lt h.number 2 ≡ true → h.second ≡ false → IsHeader head →
    IsBlock h.number true w → Spells bs (block_tokens h.number w []) → h.bytes ≡ head ++ (bs ++ rest) →
    (answer_of h ≡ block h.number (meaning w))
    × (taken_from h ≡ record h { bytes = rest; place = h.place + length head + length bs; number = h.number + 1; second = true })

-- the text that write_block writes of a tree that some block means is read as that tree; its line feed is left
abbrev pub WrittenIsRead : Type 0
WrittenIsRead =
    (h : Held) (w : Written) (rest : List ℕ) →
    h.number < 2 ^ 32 → IsBlock h.number h.second w → h.bytes ≡ block_text h.number (meaning w) ++ rest →
    (text : List ℕ) × (block_text h.number (meaning w) ≡ text ++ 10 ∷ [])
    × (answer_of h ≡ block h.number (meaning w))
    × (taken_from h ≡ record h { bytes = 10 ∷ rest; place = h.place + length text; number = h.number + 1 })

-- no bytes begin with two blocks: the one is spelled by the same bytes as the other, and means the same
abbrev pub OneBlock : Type 0
OneBlock =
    (number : ℕ) (second : Bool) (w v : Written) (bs cs rest more : List ℕ) →
    number < 2 ^ 32 → IsBlock number second w → IsBlock number second v →
    Spells bs (block_tokens number w []) → Spells cs (block_tokens number v []) → bs ++ rest ≡ cs ++ more →
    (bs ≡ cs) × (meaning w ≡ meaning v)

-- the other way round: where a block is answered, what is held begins with bytes that spell it, within the limits, behind a
-- header or none; exactly they are taken
abbrev pub ReadIsSpelled : Type 0
ReadIsSpelled =
    (h : Held) (n : ℕ) (t : Tree) → h.number < 2 ^ 32 → answer_of h ≡ block n t →
    (header : Bool) × (w : Written) × (head : List ℕ) × (bs : List ℕ) × (rest : List ℕ) × (h.bytes ≡ head ++ (bs ++ rest))
    × IsFront header h head × Spells bs (block_tokens h.number w []) × IsBlock h.number (header || h.second) w
    × (n ≡ h.number) × (t ≡ meaning w)
    × (taken_from h ≡ record h { bytes = rest; place = h.place + length head + length bs; number = h.number + 1; second = header || h.second })

-- what `trailing` takes as blank, a whole header too, is read as blank: behind it the answer is the same, at the same place
abbrev pub TrailingIsBlank : Type 0
TrailingIsBlank = (h : Held) → answer_of (past_blanks h) ≡ answer_of h

-- what is held once the rest of the text has come
abbrev pub closed : Held → List ℕ → Held
closed h rest = record h { bytes = h.bytes ++ rest; finished = true }

-- nothing follows a finished text
abbrev pub MayFollow : Held → List ℕ → Type 0
MayFollow h rest = h.finished ≡ true → rest ≡ []

-- with the rest of the text the answer is the same, and behind it there is what was left, and the rest
pub record Stays (h : Held) (rest : List ℕ) : Type 0 where
  pub answer : answer_of (closed h rest) ≡ answer_of h
  pub left : taken_from (closed h rest) ≡ closed (taken_from h) rest

-- an answer that doesn't ask for more stays, whatever follows
abbrev pub AnswersStay : Type 0
AnswersStay = (h : Held) (rest : List ℕ) → MayFollow h rest → (answer_of h ≡ need → ⊥) → Stays h rest
