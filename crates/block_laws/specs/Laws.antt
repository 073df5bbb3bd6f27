-- The laws of blocks.
use Rattle.std.specs.Prelude.{◌≡◌, ◌↔◌, ℕ, ◌+◌, ◌^◌, ◌<◌, true, List, length, None}
use Rattle.st_form.specs.Condition.{Implication}
use Rattle.st_form.specs.Formula.{Formula}
use Rattle.st_certificate.specs.Tree.{Tree}
use Rattle.farkas_check.specs.Limits.{IsLimited}
use Rattle.farkas_check.specs.Problem.{Setting}
use Rattle.farkas_check.specs.Valid.{IsCertificate}
use Rattle.cert_text.specs.Answer.{block}
use Rattle.cert_text.specs.Blank.{first_place, past_blanks}
use Rattle.cert_text.specs.Held.{Held, answer_of}
use Rattle.block_laws.specs.Tests.{is_certificate}
use Rattle.block_laws.specs.Checked.{all_valid, checked_from}
use Rattle.block_laws.specs.Blocks.{HasBlocks}

-- the test of certificates is their validity
abbrev pub TestIsExact : Type 0
TestIsExact = (k : Setting) (given shown : Formula) (t : Tree) → (is_certificate k given shown t ≡ true) ↔ IsCertificate k given shown t

-- a block that is read is within the limits of certificates
abbrev pub BlocksAreLimited : Type 0
BlocksAreLimited = (h : Held) (n : ℕ) (t : Tree) → answer_of h ≡ block n t → IsLimited t

-- all blocks are valid, and only blanks are left
pub record AllDischarged (k : Setting) (cs : List Implication) (h : Held) : Type 0 where
  pub rest : Held
  pub valid : checked_from k h.number cs h ≡ all_valid rest
  pub blank : first_place (past_blanks rest) ≡ None

-- the function finds this exactly where the text holds a valid block for each condition and only blanks behind
abbrev pub BlocksAreExact : Type 0
BlocksAreExact = (k : Setting) (cs : List Implication) (h : Held) → h.finished ≡ true → h.number + length cs < 2 ^ 32 → AllDischarged k cs h ↔ HasBlocks k cs h
