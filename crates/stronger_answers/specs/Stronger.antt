-- What is answered where two searches follow each other.
use Rattle.std.specs.Prelude.{◌≡◌, ◌⊎◌, ℕ, List, [], Some, IfSome, option_map}
use Rattle.st_outside.specs.Sink.{behind}
use Rattle.step_plan.specs.declared.status.Status.TheVariants.{Proved, NotProved}
use Rattle.step_plan.specs.Plan.{outcome_of}
use Rattle.step_plan.specs.Ending.{UnlessFault, IsReached}
use Rattle.step_run.specs.Headline.{Headline, Exactly}
use Rattle.step_run.specs.Plans.{plan_for}
use Rattle.step_answers.specs.declared.answer.Answer.{Answer}
use Rattle.milkhour_run.specs.Held.{told_in}
use Rattle.milkhour_run.specs.Asked.{asked}
use Rattle.milkhour_run.specs.declared.held_texts.Texts.{Texts}
use Rattle.milkhour_run.specs.declared.question.Question.{Question}
use Rattle.milkhour_run.specs.declared.question.Question.TheVariants.{Check, Verify, Prove, Trace, Invariants}
use Rattle.tree_answers.specs.Found.{IsFound}

-- `step`'s answer to a question: status and text, what is shown with status 0, and when this comes
pub record IsAnswerTo (q : Question) (t : Texts) (a : Answer) : Type 0 where
  pub outcome : UnlessFault a.status (IfSome (outcome_of (told_in t) (plan_for (asked q))) (IsReached a.status (Some []) (Some a.text.items)))
  pub headline : a.status ≡ Proved → Headline (told_in t) (λ text. Some a.text.items ≡ behind (Some []) text) (Some (asked q))
  pub exact : UnlessFault a.status (Exactly (told_in t) a.status (Some (asked q)))

-- `check` answers over the same program and proof, with these certificates, that the goals hold
pub record IsCheckedBy (t : Texts) (certificates : List ℕ) (a : Answer) : Type 0 where
  pub certified : Texts
  pub program : certified.program ≡ t.program
  pub proof : certified.proof ≡ t.proof
  pub third : option_map (λ bytes. bytes.now) certified.third ≡ Some certificates
  pub proved : a.status ≡ Proved
  pub answer : IsAnswerTo Check certified a

-- `check` accepts these certificates
abbrev pub IsAccepted : Texts → List ℕ → Type 0
IsAccepted t certificates = (a : Answer) × IsCheckedBy t certificates a

-- `verify` leaves a condition open, and with some certificates `check` answers that the goals hold
pub record IsClosed (t : Texts) (a : Answer) : Type 0 where
  pub first : Answer
  pub number : ℕ
  pub searched : IsAnswerTo Verify t first
  pub left_open : first.status ≡ NotProved number
  pub certificates : List ℕ
  pub checked : IsCheckedBy t certificates a

-- the answer of `verify`, or where that leaves a condition open, one of `check` that the goals hold
abbrev pub IsSearched : Texts → Answer → Type 0
IsSearched t a = IsAnswerTo Verify t a ⊎ IsClosed t a

-- Or each condition has a valid certificate, of whatever size: so the goals hold, and the answer is the one of status 0, with the text that
-- `verify` prints with it.
abbrev pub IsStronger : Texts → Answer → Type 0
IsStronger t a = IsSearched t a ⊎ IsFound t a

-- `prove` leaves a condition open, and this is a text of certificates that `check` accepts
pub record IsCertified (t : Texts) (a : Answer) : Type 0 where
  pub first : Answer
  pub number : ℕ
  pub searched : IsAnswerTo Prove t first
  pub left_open : first.status ≡ NotProved number
  pub proved : a.status ≡ Proved
  pub accepted : IsAccepted t a.text.items

-- the answer of `prove`, or where that leaves a condition open, certificates that `check` accepts
abbrev pub IsCertifying : Texts → Answer → Type 0
IsCertifying t a = IsAnswerTo Prove t a ⊎ IsCertified t a

-- what is answered to a question
abbrev pub IsAnswered : Question → Texts → Answer → Type 0
IsAnswered Check t a = IsAnswerTo Check t a
IsAnswered Verify t a = IsStronger t a
IsAnswered Prove t a = IsCertifying t a
IsAnswered Trace t a = IsAnswerTo Trace t a
IsAnswered Invariants t a = IsAnswerTo Invariants t a
