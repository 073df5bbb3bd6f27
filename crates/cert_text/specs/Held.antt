-- What a reader holds of a text, what it answers, and what it holds behind the answer.
use Rattle.std.specs.Prelude.{◌≡◌, ℕ, ◌+◌, ◌-◌, ◌<◌, ◌≤◌, ◌^◌, Bool, false, if◌then◌else◌, List, [], length, take, drop}
use Rattle.cert_text.specs.declared.progress.Progress.{Progress}
use Rattle.cert_text.specs.Reading.{State, going, malformed, over, whole, after, start, progress_view}
use Rattle.cert_text.specs.Tree.{last_tree}
use Rattle.cert_text.specs.Answer.{Answer, block, need, malformed_at, limit_at, at_end}

-- what a reader holds
pub record Held : Type 0 where
  pub bytes : List ℕ  -- pushed and not yet taken
  pub place : ℕ  -- of the first of them in the whole text
  pub number : ℕ  -- of the next block
  pub second : Bool  -- whether a header was taken
  pub finished : Bool

abbrev pub nothing_held : Held
nothing_held = record { bytes = []; place = 0; number = 1; second = false; finished = false }

-- where the bytes lead
abbrev pub outcome : Held → State
outcome h = after h.place (start h.number h.second) h.bytes

abbrev pub answer_at : State → Held → Answer
answer_at (going scan built pending) h = if h.finished then at_end scan pending (h.place + length h.bytes) else need
answer_at (malformed place) h = malformed_at place
answer_at (over place) h = limit_at place
answer_at (whole end scan built) h = block h.number (last_tree built.trees)

-- the answer to what is held
abbrev pub answer_of : Held → Answer
answer_of h = answer_at (outcome h) h

abbrev pub taken_at : State → Held → Held
taken_at (whole end scan built) h = record h { bytes = drop (end - h.place) h.bytes; place = end; number = h.number + 1; second = scan.second }
taken_at _ h = h

-- what is held behind the answer
abbrev pub taken_from : Held → Held
taken_from h = taken_at (outcome h) h

-- the progress is that of the bytes that are scanned
pub record IsFollowed (bytes : List ℕ) (taken scanned place number : ℕ) (second : Bool) (progress : Progress) : Type 0 where
  pub in_order : taken ≤ scanned
  pub within : scanned ≤ length bytes
  pub room : place + (length bytes - taken) < 2 ^ 64
  pub follows : progress_view progress ≡ after place (start number second) (take (scanned - taken) (drop taken bytes))
