-- Blocks that are taken while the text comes, and checked in batches.
use Rattle.std.specs.Prelude.{◌≡◌, ℕ, false, ◌+◌, ◌≤◌, List, [], length, drop, Option, Some, None, IfSome}
use Rattle.st_form.specs.Condition.{Implication}
use Rattle.st_form.specs.declared.conditions.Condition.{Condition}
use Rattle.st_certificate.specs.Tree.{Tree}
use Rattle.farkas_check.specs.Problem.{Setting}
use Rattle.cert_text.specs.Held.{Held}
use Rattle.cert_laws.specs.Laws.{closed, MayFollow}
use Rattle.script_obligations.specs.Laws.{AreLimitedBlocks}
use Rattle.block_laws.specs.Checked.{pending_from}
use Rattle.block_laws.specs.Plain.{trees, plains}
use Rattle.certificate_batches.specs.declared.finding.Finding.{Finding}
use Rattle.certificate_batches.specs.declared.batches.Batches.{Batches}
use Rattle.certificate_batches.specs.declared.passing.Compared.{Compared}
use Rattle.certificate_batches.specs.declared.passing.Compared.TheVariants.{Same, Short, Other}
use Rattle.certificate_batches.specs.Finding.{finding_of, IsAmong}

-- what is settled, or else what the conditions from a number on come to, of which the first have blocks that wait for their check
abbrev pub rest_found : Setting → Option Finding → ℕ → List Implication → List Tree → Held → Finding
rest_found k (Some f) number cs ts h = f
rest_found k None number cs ts h = finding_of (pending_from k number cs ts h)

-- what all comes to, where these bytes end the text
unfoldable pub comes_to : Setting → List Condition → Batches → List ℕ → Finding
comes_to k cs b rest = rest_found k b.settled (b.discharged + 1) (plains (drop b.discharged cs)) (trees b.blocks.items) (closed b.reader rest)

-- a step changes nothing of what all comes to
abbrev pub Keeps : Setting → List Condition → Batches → Batches → Type 0
Keeps k cs before now = (rest : List ℕ) → MayFollow before.reader rest → comes_to k cs now rest ≡ comes_to k cs before rest

-- the blocks that wait are those of the next conditions, and the reader's next is that behind them
pub record AreInOrder (cs : List Condition) (b : Batches) : Type 0 where
  pub within : b.discharged + length b.blocks.items ≤ length cs
  pub number : b.reader.number ≡ b.discharged + length b.blocks.items + 1
  pub limited : AreLimitedBlocks b.blocks.items
  pub among : IfSome b.settled (IsAmong (length cs))

-- nothing is settled, and no condition is left
pub record AreAllDischarged (cs : List Condition) (b : Batches) : Type 0 where
  pub unsettled : b.settled ≡ None
  pub none_waits : b.blocks.items ≡ []
  pub all : b.discharged ≡ length cs

-- how many conditions have blocks that were taken, discharged or waiting for their check
abbrev pub taken : Batches → ℕ
taken b = b.discharged + length b.blocks.items

-- where the next block was compared: one more is taken where it is the same; where it is short, the text is open
abbrev pub IsLeft : Batches → Batches → Compared → Type 0
IsLeft before now Same = taken now ≡ taken before + 1
IsLeft before now Short = before.reader.finished ≡ false
IsLeft before now Other = taken now ≡ taken before
