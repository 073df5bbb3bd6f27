-- Which texts discharge conditions: those that hold a valid block for each condition, in order, and only blanks behind.
use Rattle.std.specs.Prelude.{◌≡◌, ℕ, ◌+◌, Bool, ◌||◌, List, [], ◌∷◌, ◌++◌, length}
use Rattle.st_form.specs.Condition.{Implication}
use Rattle.farkas_check.specs.Problem.{Setting}
use Rattle.farkas_check.specs.Valid.{IsCertificate}
use Rattle.cert_text.specs.Grammar.{Written, IsBlock, block_tokens, meaning}
use Rattle.cert_text.specs.Held.{Held}
use Rattle.cert_laws.specs.Spelled.{Spells, IsFront}
use Rattle.cert_laws.specs.Refused.{IsBlankOnly}

-- What is held begins with a block of the next number, behind a header or none: its bytes spell a certificate, within the
-- limits, that is valid for the condition.
pub record HasBlock (k : Setting) (h : Held) (c : Implication) : Type 0 where
  pub header : Bool
  pub head : List ℕ
  pub text : List ℕ
  pub rest : List ℕ
  pub written : Written
  pub split : h.bytes ≡ head ++ (text ++ rest)
  pub front : IsFront header h head
  pub spells : Spells text (block_tokens h.number written [])
  pub allowed : IsBlock h.number (header || h.second) written
  pub valid : IsCertificate k c.given c.shown (meaning written)

-- what is held behind it
abbrev pub behind : {k : Setting} {c : Implication} (h : Held) → HasBlock k h c → Held
behind h b = record h { bytes = b.rest; place = h.place + length b.head + length b.text; number = h.number + 1; second = b.header || h.second }

abbrev pub HasBlocks : Setting → List Implication → Held → Type 0
HasBlocks k [] h = IsBlankOnly h
HasBlocks k (c ∷ cs) h = (b : HasBlock k h c) × HasBlocks k cs (behind h b)
