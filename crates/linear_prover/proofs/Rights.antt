-- What a verdict means, by the laws of the search.
use Rattle.std.proofs.Common.{◌≡◌, List, length, subst, sym, Option, Some, None}
use Rattle.st_form.specs.Formula.{Formula}
use Rattle.st_certificate.specs.Plain.{plain as tree_of}
use Rattle.farkas_check.specs.Problem.{Setting, first_problem}
use Rattle.elimination_laws.specs.declared.stage.WideStage.{WideStage}
use Rattle.search_laws.specs.States.{State}
use Rattle.search_laws.specs.Walks.{PathStep, left_open, given_up, Found, found, stopped, searched}
use Rattle.search_laws.specs.Moves.{move_of, open_at, wide_at, verdict_of, decided}
use Rattle.search_laws.specs.Forms.{AllForms, IsProper}
use Rattle.search_laws.specs.Sizes.{IsShort, FailsShort}
use Rattle.search_laws.proofs.Finding.{proved}
use Rattle.search_laws.proofs.Refuting.{refuted}
use Rattle.search_laws.proofs.Counting.{searched-short}
use Rattle.search_verdicts.specs.declared.verdict.Verdict.{Verdict}
use Rattle.search_verdicts.specs.declared.verdict.Verdict.TheVariants.{Valid, Open, Wide}
use Rattle.search_verdicts.specs.Plain.{plain_path, plain_shown, plain_verdict}
use Rattle.linear_prover.specs.Verdicts.{IsRight}

short-open : (f : Found) (path : List PathStep) (state : Option State) → FailsShort f → open_at path state ≡ verdict_of f → IsShort path
short-open (found t n) path state h e = absurd (cc)
short-open (stopped there (left_open shown)) path state h e = let same : there ≡ path = cc in subst IsShort same h
short-open (stopped there (given_up s)) path state h e = absurd (cc)

short-wide : (f : Found) (path : List PathStep) (w : WideStage) → FailsShort f → wide_at path w ≡ verdict_of f → IsShort path
short-wide (found t n) path w h e = absurd (cc)
short-wide (stopped there (left_open shown)) path w h e = absurd (cc)
short-wide (stopped there (given_up s)) path w h e = let same : there ≡ path = cc in subst IsShort same h

pub right-from : (k : Setting) (given shown : Formula) (v : Verdict) → AllForms (IsProper (length k.variables)) given → AllForms (IsProper (length k.variables)) shown → plain_verdict v ≡ decided k given shown → IsRight k given shown v
right-from k given shown (Valid c) g h e = proved k given shown (tree_of c) g h (sym e)
right-from k given shown (Open path None) g h e =
    short-open (searched (move_of k) (first_problem k given shown)) (plain_path path.items) None (searched-short (move_of k) (first_problem k given shown)) e
right-from k given shown (Open path (Some s)) g h e = (
  short-open (searched (move_of k) (first_problem k given shown)) (plain_path path.items) (Some (plain_shown s)) (searched-short (move_of k) (first_problem k given shown)) e,
  λ o. refuted k given shown (plain_path path.items) (plain_shown s) o (sym e),
)
right-from k given shown (Wide path w) g h e =
    short-wide (searched (move_of k) (first_problem k given shown)) (plain_path path.items) w (searched-short (move_of k) (first_problem k given shown)) e
