-- A block, read byte by byte: how far it is read, and what is built.
use Rattle.std.specs.Prelude.{ℕ, ◌+◌, Bool, true, false, ◌&&◌, nat_lt, if◌then◌else◌, List, [], ◌∷◌, ◌++◌, length, Option, Some, None}
use Rattle.cert_text.specs.declared.scan.Word.{Word}
use Rattle.cert_text.specs.declared.scan.Token.TheVariants as tokens
use Rattle.cert_text.specs.declared.scan.Want.{Want}
use Rattle.cert_text.specs.declared.scan.Want.TheVariants as wants
use Rattle.cert_text.specs.declared.scan.Scan.{Scan}
use Rattle.cert_text.specs.declared.scan.Given.{Given}
use Rattle.cert_text.specs.declared.scan.Given.TheVariants as givens
use Rattle.cert_text.specs.declared.progress.Pending as code_pending
use Rattle.cert_text.specs.declared.progress.Pending.TheVariants as ends
use Rattle.cert_text.specs.declared.progress.Stage.{Stage}
use Rattle.cert_text.specs.declared.progress.Stage.TheVariants as stages
use Rattle.cert_text.specs.declared.progress.Progress.{Progress}
use Rattle.cert_text.specs.Control.{give, fits_word, fits_number, word_of}
use Rattle.cert_text.specs.Tree.{Built, nothing_built, applied, built_view}
use Rattle.cert_text.specs.Letters.{is_blank, is_letter, is_digit, grown}

-- a token of which more may come, and its place
pub data Pending : Type 0 where
  idle : Pending
  letters : ℕ → List ℕ → Pending
  digits : ℕ → ℕ → Pending

-- how far a block is read
pub data State : Type 0 where
  going : Scan → Built → Pending → State
  malformed : ℕ → State
  over : ℕ → State
  whole : ℕ → Scan → Built → State

abbrev pub is_whole : Want → Bool
is_whole wants.Whole = true
is_whole _ = false

abbrev pub stage_of : Want → ℕ → Stage
stage_of want end = if is_whole want then stages.Whole end else stages.Going

abbrev pub staged : Stage → Scan → Built → Pending → State
staged stages.Going scan built pending = going scan built pending
staged (stages.Malformed place) scan built pending = malformed place
staged (stages.Over place) scan built pending = over place
staged (stages.Whole end) scan built pending = whole end scan built

-- a token ends before `end`, and was begun at `start`
abbrev pub token_taken : ℕ → ℕ → Given → Built → State
token_taken start end (givens.On scan action) built = staged (stage_of scan.want end) scan (applied action built) idle
token_taken start end givens.Wrong built = malformed start
token_taken start end givens.Over built = over start

abbrev pub word_ended : ℕ → ℕ → Scan → Built → Option Word → State
word_ended start end scan built (Some w) = token_taken start end (give scan (tokens.Word w)) built
word_ended start end scan built None = malformed start

-- a letter more of a word
abbrev pub word_grown : ℕ → Scan → Built → List ℕ → ℕ → State
word_grown start scan built ls b =
    if nat_lt (length ls) 8 && fits_word scan (ls ++ b ∷ []) then going scan built (letters start (ls ++ b ∷ [])) else malformed start

-- a digit more of a number
abbrev pub number_grown : ℕ → Scan → Built → ℕ → ℕ → State
number_grown start scan built n b =
    if fits_number scan (grown n b) then going scan built (digits start (grown n b)) else malformed start

-- a token begins, or a blank stands here
abbrev pub begun : ℕ → ℕ → Scan → Built → State
begun at b scan built =
    if is_blank b then going scan built idle
    else (if is_letter b then word_grown at scan built [] b
    else (if is_digit b then number_grown at scan built 0 b
    else token_taken at (at + 1) (give scan (tokens.Sign b)) built))

abbrev pub and_begun : ℕ → ℕ → State → State
and_begun at b (going scan built pending) = begun at b scan built
and_begun at b (malformed place) = malformed place
and_begun at b (over place) = over place
and_begun at b (whole end scan built) = whole end scan built

abbrev pub stepped : ℕ → ℕ → Scan → Built → Pending → State
stepped at b scan built idle = begun at b scan built
stepped at b scan built (letters start ls) =
    if is_letter b then word_grown start scan built ls b
    else and_begun at b (word_ended start at scan built (word_of ls))
stepped at b scan built (digits start n) =
    if is_digit b then number_grown start scan built n b
    else and_begun at b (token_taken start at (give scan (tokens.Number n)) built)

-- a byte more, at a place
unfoldable pub step : ℕ → State → ℕ → State
step at (going scan built pending) b = stepped at b scan built pending
step at (malformed place) b = malformed place
step at (over place) b = over place
step at (whole end scan built) b = whole end scan built

-- the bytes from a place on
abbrev pub after : ℕ → State → List ℕ → State
after at s [] = s
after at s (b ∷ bs) = after (at + 1) (step at s b) bs

abbrev pub is_going : State → Bool
is_going (going scan built pending) = true
is_going (malformed place) = false
is_going (over place) = false
is_going (whole end scan built) = false

-- before the block of a number: a header may stand there before the first block of a text of version 1
abbrev pub start : ℕ → Bool → State
start number second =
    going (record { want = wants.Block (nat_lt number 2 && (if second then false else true)); number = number; second = second; depth = 0; trees = 0 }) nothing_built idle

abbrev pub pending_view : code_pending.Pending → List ℕ → Pending
pending_view ends.Idle ls = idle
pending_view (ends.Word start) ls = letters start ls
pending_view (ends.Number start n) ls = digits start n

abbrev pub progress_view : Progress → State
progress_view p = staged p.stage p.scan (built_view p.building) (pending_view p.pending p.letters)
