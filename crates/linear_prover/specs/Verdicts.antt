-- What a verdict means.
use Rattle.std.specs.Prelude.{◌≡◌, Bool, true, false, Option, Some, None}
use Rattle.st_form.specs.Formula.{Formula}
use Rattle.st_certificate.specs.Plain.{plain as tree_of}
use Rattle.farkas_check.specs.Problem.{Setting}
use Rattle.search_laws.specs.Forms.{IsInOrder}
use Rattle.search_laws.specs.Moves as moves
use Rattle.search_laws.specs.Laws.{IsProved, IsCounterexample}
use Rattle.search_laws.specs.Sizes.{IsShort}
use Rattle.search_verdicts.specs.declared.verdict.Verdict.{Verdict}
use Rattle.search_verdicts.specs.declared.verdict.Verdict.TheVariants.{Valid, Open, Wide}
use Rattle.search_verdicts.specs.Plain.{plain_path, plain_shown, plain_verdict}

-- a certificate is valid and within the limits, so the condition holds; a state that is shown is one of control states
-- in which the condition is false; and paths are short
abbrev pub IsRight : Setting → Formula → Formula → Verdict → Type 0
IsRight k given shown (Valid c) = IsProved k given shown (tree_of c)
IsRight k given shown (Open path None) = IsShort (plain_path path.items)
IsRight k given shown (Open path (Some s)) = IsShort (plain_path path.items) × (IsInOrder k.control → IsCounterexample k given shown (plain_shown s))
IsRight k given shown (Wide path w) = IsShort (plain_path path.items)

-- a verdict says that the condition is valid
abbrev pub is_valid : moves.Verdict → Bool
is_valid (moves.valid t) = true
is_valid (moves.open_at path state) = false
is_valid (moves.wide_at path stage) = false

-- what is said of a condition unless it is valid: nothing where the verdict is that it is, and else the verdict
abbrev pub IsUnlessValid : Setting → Formula → Formula → Option Verdict → Type 0
IsUnlessValid k given shown None = is_valid (moves.decided k given shown) ≡ true
IsUnlessValid k given shown (Some v) = (is_valid (moves.decided k given shown) ≡ false) × (plain_verdict v ≡ moves.decided k given shown) × IsRight k given shown v
