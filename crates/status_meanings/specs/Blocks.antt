-- The first condition without a valid block in a text of certificates, and why it has none.
use Rattle.std.specs.Prelude.{◌≡◌, ◌⊎◌, ℕ, ◌+◌, List, [], ◌∷◌, ◌++◌, length}
use Rattle.st_form.specs.Condition.{Implication}
use Rattle.st_certificate.specs.Tree.{Tree}
use Rattle.farkas_check.specs.Problem.{Setting}
use Rattle.farkas_check.specs.Valid.{IsCertificate}
use Rattle.cert_text.specs.Answer.{block}
use Rattle.cert_text.specs.Held.{Held, answer_of}
use Rattle.cert_laws.specs.Refused.{IsEnded, standing, LimitAt, WrongAt, BreaksOffAt}
use Rattle.step_report.specs.declared.conditions.Reason.{Reason}
use Rattle.step_report.specs.declared.conditions.Reason.TheVariants.{Absent, Malformed, OverLimit, NotValid}
use Rattle.block_laws.specs.Blocks.{HasBlock, behind}

-- valid blocks for conditions, in order, up to what is held behind them
abbrev pub HaveBlocks : Setting → List Implication → Held → Held → Type 0
HaveBlocks k [] h g = h ≡ g
HaveBlocks k (c ∷ cs) h g = (b : HasBlock k h c) × HaveBlocks k cs (behind h b) g

-- Why what is held has no valid block of the condition in front: the text is at its end; it doesn't go on, or breaks off; a token
-- passes a limit; or the block is of a tree that is no certificate of the condition.
pub data IsWhy (k : Setting) (c : Implication) (h : Held) : Reason → Type 0 where
  is_absent : IsEnded h → IsWhy k c h Absent
  is_malformed : (place : ℕ) → WrongAt h place ⊎ BreaksOffAt h place → IsWhy k c h Malformed
  is_over : (place : ℕ) → LimitAt h (standing h) place → IsWhy k c h OverLimit
  is_not_valid : (n : ℕ) (t : Tree) → answer_of h ≡ block n t → (IsCertificate k c.given c.shown t → ⊥) → IsWhy k c h NotValid

-- condition n is the first without one, for this reason; those before it have valid blocks
pub record IsFirstWithout (k : Setting) (cs : List Implication) (h : Held) (n : ℕ) (c : Implication) (reason : Reason) : Type 0 where
  pub before : List Implication
  pub further : List Implication
  pub are : cs ≡ before ++ c ∷ further
  pub number : n ≡ h.number + length before
  pub held : Held
  pub blocks : HaveBlocks k before h held
  pub why : IsWhy k c held reason
