-- How runs end that search for certificates: at the first condition whose verdict isn't that it is valid, or with the
-- certificates of all.
use Rattle.std.specs.Prelude.{ℕ, ◌+◌, List, [], ◌∷◌, ◌++◌, length, nat_lt, if◌then◌else◌, Option}
use Rattle.st_tokens.specs.declared.limit.LimitKind.TheVariants as limits
use Rattle.st_form.specs.Condition.{Implication}
use Rattle.st_certificate.specs.Tree.{Tree}
use Rattle.elimination_laws.specs.declared.stage.WideStage.{WideStage}
use Rattle.farkas_check.specs.Problem.{Setting}
use Rattle.search_laws.specs.Moves.{Verdict, valid, open_at, wide_at, decided}
use Rattle.search_laws.specs.Sizes.{nodes}
use Rattle.search_laws.specs.States.{State}
use Rattle.search_laws.specs.Walks.{PathStep}
use Rattle.step_report.specs.declared.conditions.Reason.{Reason}
use Rattle.step_report.specs.declared.conditions.Reason.TheVariants.{Open, Wide}
use Rattle.step_report.specs.Conditions.{not_proved_text}
use Rattle.step_report.specs.Searches.{open_text, wide_text}
use Rattle.step_report.specs.Goals.{counted_text, certificates_text}
use Rattle.step_plan.specs.declared.status.Status.TheVariants.{Proved, NotProved}
use Rattle.step_plan.specs.Limits.{limited}
use Rattle.step_plan.specs.Outcome.{Outcome}
use Rattle.step_run.specs.Conditions.{Posed, setting_of}
use Rattle.step_run.specs.Checked.{goals_proved}

-- the certificates of all conditions; or the first condition without one, with its number: it is left open, or given up
pub data Verified : Type 0 where
  all_found : List Tree → Verified
  left_open : ℕ → Implication → List PathStep → Option State → Verified
  given_up : ℕ → Implication → List PathStep → WideStage → Verified

abbrev pub found_before : Tree → Verified → Verified
found_before t (all_found ts) = all_found (t ∷ ts)
found_before t (left_open n c path state) = left_open n c path state
found_before t (given_up n c path stage) = given_up n c path stage

abbrev pub by_verdict : ℕ → Implication → Verified → Verdict → Verified
by_verdict n c more (valid t) = found_before t more
by_verdict n c more (open_at path state) = left_open n c path state
by_verdict n c more (wide_at path stage) = given_up n c path stage

unfoldable pub verdict_on : Setting → Implication → Verdict
verdict_on k c = decided k c.given c.shown

-- the verdicts on conditions from a number on
abbrev pub verified_from : Setting → ℕ → List Implication → Verified
verified_from k n [] = all_found []
verified_from k n (c ∷ cs) = by_verdict n c (verified_from k (n + 1) cs) (verdict_on k c)

-- the text of a condition without a certificate, and of what the search ended with
abbrev pub undecided : Posed → ℕ → Implication → Reason → List ℕ → Outcome
undecided x n c reason behind = record { status = NotProved n; text = not_proved_text x.program.names x.steps n c.name reason ++ behind }

-- the outcome, where this one comes of the certificates of all conditions
abbrev pub search_ended : Posed → (List Tree → Outcome) → Verified → Outcome
search_ended x all (all_found ts) = all ts
search_ended x all (left_open n c path state) = undecided x n c Open (open_text x.program.names path state)
search_ended x all (given_up n c path stage) = undecided x n c Wide (wide_text x.program.names path stage)

unfoldable pub searched : Posed → (List Tree → Outcome) → Outcome
searched x all = search_ended x all (verified_from (setting_of x.program) 1 x.conditions)

-- of `verify`
abbrev pub verified : Posed → Outcome
verified x = searched x (λ ts. goals_proved x)

-- of `prove`: the text of the certificates, unless it is too long to be checked
abbrev pub certificates : List Tree → Outcome
certificates ts = if nat_lt 268435456 (length (certificates_text ts)) then limited limits.Certificates else record { status = Proved; text = certificates_text ts }

abbrev pub written : Posed → Outcome
written x = searched x certificates

-- of a workload: the numbers of goals, conditions and nodes of all certificates
abbrev pub nodes_in : List Tree → ℕ
nodes_in [] = 0
nodes_in (t ∷ ts) = nodes t + nodes_in ts

abbrev pub goals_counted : Posed → List Tree → Outcome
goals_counted x ts = record { status = Proved; text = counted_text x.steps (length x.conditions) (nodes_in ts) }

abbrev pub counted : Posed → Outcome
counted x = searched x (goals_counted x)
