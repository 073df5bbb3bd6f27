-- The laws of what the search finds, as text.
use Rattle.std.specs.Prelude.{◌≡◌, ◌-◌, ◌^◌, ◌<◌, List, length}
use Rattle.st_form.specs.Condition.{Implication}
use Rattle.st_form.specs.Formula.{Formula}
use Rattle.st_certificate.specs.Tree.{Tree}
use Rattle.farkas_check.specs.Problem.{Setting}
use Rattle.search_laws.specs.Moves.{valid, decided}
use Rattle.search_laws.specs.Forms.{AllForms, IsProper, IsInOrder}
use Rattle.step_report.specs.Goals.{certificates_text}
use Rattle.block_laws.specs.Checked.{whole_text}
use Rattle.block_laws.specs.Blocks.{HasBlocks}
use Rattle.search_blocks.specs.Writable.{IsWritable, Discharge}

-- over fewer than 2^32 components and variables, a certificate that is found can be written
abbrev pub FoundAreWritten : Type 0
FoundAreWritten = (k : Setting) (given shown : Formula) (t : Tree)
    → IsInOrder k.control → length k.control.components < 2 ^ 32 → length k.variables < 2 ^ 32
    → AllForms (IsProper (length k.variables)) given → AllForms (IsProper (length k.variables)) shown
    → decided k given shown ≡ valid t → IsWritable t

-- the text of certificates that discharge conditions holds their blocks
abbrev pub TextsHoldBlocks : Type 0
TextsHoldBlocks = (k : Setting) (cs : List Implication) (ts : List Tree) → length cs < 2 ^ 32 - 1 → Discharge k cs ts → HasBlocks k cs (whole_text (certificates_text ts))
