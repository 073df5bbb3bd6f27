-- What is taken from a text that may still be open, wherever its rest ends.
use Rattle.std.specs.Prelude.{◌≡◌, ℕ, ◌+◌, ◌<◌, ◌≤◌, Bool, true, false, List, [], ◌∷◌, ◌++◌, length, Option, Some, None}
use Rattle.st_form.specs.Condition.{Implication}
use Rattle.st_certificate.specs.Tree.{Tree}
use Rattle.st_certificate.specs.Plain.{plain as tree_of}
use Rattle.farkas_check.specs.Limits.{IsLimited}
use Rattle.farkas_check.specs.Problem.{Setting}
use Rattle.cert_text.specs.declared.reader.Block.{Block}
use Rattle.cert_text.specs.Blank.{first_place, past_blanks}
use Rattle.cert_text.specs.Answer.{Answer, block, need, no_more, malformed_at, limit_at}
use Rattle.cert_text.specs.Held.{Held}
use Rattle.cert_laws.specs.Laws.{closed, MayFollow}
use Rattle.block_laws.specs.Checked.{block_tested, pending_from}
use Rattle.certificate_batches.specs.declared.turns.Turn.{Turn}
use Rattle.certificate_batches.specs.declared.turns.Turn.TheVariants.{Taken, Needs, Lacks}

-- how far the text has come
abbrev pub reach : Held → ℕ
reach h = h.place + length h.bytes

-- a block was taken, and waits for its check behind those that wait already
pub record IsTaken (before now : Held) (b : Block) : Type 0 where
  pub limited : IsLimited (tree_of b.certificate)
  pub number : now.number ≡ before.number + 1
  pub finished : now.finished ≡ before.finished
  pub reached : reach now ≤ reach before
  pub waits : (k : Setting) (number : ℕ) (cs : List Implication) (ts : List Tree) (rest : List ℕ) → MayFollow before rest → length ts < length cs
      → pending_from k number cs (ts ++ tree_of b.certificate ∷ []) (closed now rest) ≡ pending_from k number cs ts (closed before rest)

abbrev pub IsTurn : Held → Held → Turn → Type 0
IsTurn before now (Taken b) = IsTaken before now b
IsTurn before now Needs = (now ≡ before) × (before.finished ≡ false)
IsTurn before now (Lacks reason) =
    (now ≡ before) × ((k : Setting) (c : Implication) (rest : List ℕ) → MayFollow before rest → block_tested k c (closed before rest) ≡ Some reason)

-- the place of what isn't blank, once the rest has come
abbrev pub trailing : Held → List ℕ → Option ℕ
trailing h rest = first_place (past_blanks (closed h rest))

-- blanks were taken
pub record AreDropped (before now : Held) : Type 0 where
  pub number : now.number ≡ before.number
  pub finished : now.finished ≡ before.finished
  pub reached : reach now ≤ reach before
  pub same : (rest : List ℕ) → trailing now rest ≡ trailing before rest

-- what isn't blank in front, a whole header counting as blank: its place, once the rest can't change it; else what was blank was taken
abbrev pub IsFronted : Held → Held → Option ℕ → Type 0
IsFronted before now (Some place) = (rest : List ℕ) → trailing before rest ≡ Some place
IsFronted before now None = AreDropped before now

-- more is needed
abbrev pub is_need : Answer → Bool
is_need need = true
is_need (block n t) = false
is_need no_more = false
is_need (malformed_at place) = false
is_need (limit_at place) = false
