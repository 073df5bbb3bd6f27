-- The certificates of conditions, block by block, as a function: which condition is the first without a valid block, and why.
use Rattle.std.specs.Prelude.{ℕ, ◌+◌, true, false, List, [], ◌∷◌, Option, Some, None, if◌then◌else◌}
use Rattle.st_form.specs.Condition.{Implication}
use Rattle.st_certificate.specs.Tree.{Tree}
use Rattle.farkas_check.specs.Problem.{Setting}
use Rattle.cert_text.specs.Answer.{Answer, block, need, no_more, malformed_at, limit_at}
use Rattle.cert_text.specs.Held.{Held, answer_of, taken_from}
use Rattle.step_report.specs.declared.conditions.Reason.{Reason}
use Rattle.step_report.specs.declared.conditions.Reason.TheVariants.{Absent, Malformed, OverLimit, NotValid}
use Rattle.block_laws.specs.Tests.{is_certificate}

-- a whole text, before its first block
abbrev pub whole_text : List ℕ → Held
whole_text text = record { bytes = text; place = 0; number = 1; second = false; finished = true }

-- all blocks are valid, and this is left of the text; or the condition of this number has none that is valid
pub data Checked : Type 0 where
  all_valid : Held → Checked
  refused : ℕ → Implication → Reason → Checked

-- why a certificate doesn't discharge a condition, if it doesn't
abbrev pub tree_tested : Setting → Implication → Tree → Option Reason
tree_tested k c t = if is_certificate k c.given c.shown t then None else Some NotValid

-- why the next block doesn't, if it doesn't; a whole text never needs more
abbrev pub reason_of : Setting → Implication → Answer → Option Reason
reason_of k c (block n t) = tree_tested k c t
reason_of k c no_more = Some Absent
reason_of k c (malformed_at place) = Some Malformed
reason_of k c (limit_at place) = Some OverLimit
reason_of k c need = Some Malformed

unfoldable pub block_tested : Setting → Implication → Held → Option Reason
block_tested k c h = reason_of k c (answer_of h)

-- what is left behind the next block
unfoldable pub behind_block : Held → Held
behind_block h = taken_from h

abbrev pub block_judged : ℕ → Implication → Checked → Option Reason → Checked
block_judged number c more None = more
block_judged number c more (Some reason) = refused number c reason

-- conditions from a number on against the text of their blocks
abbrev pub checked_from : Setting → ℕ → List Implication → Held → Checked
checked_from k number [] h = all_valid h
checked_from k number (c ∷ cs) h = block_judged number c (checked_from k (number + 1) cs (behind_block h)) (block_tested k c h)

-- the same, where the blocks of the first conditions were taken from the text and wait for their check
abbrev pub pending_from : Setting → ℕ → List Implication → List Tree → Held → Checked
pending_from k number cs [] h = checked_from k number cs h
pending_from k number [] (t ∷ ts) h = all_valid h
pending_from k number (c ∷ cs) (t ∷ ts) h = block_judged number c (pending_from k (number + 1) cs ts h) (tree_tested k c t)
