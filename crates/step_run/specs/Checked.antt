-- How a check ends: at the first condition without a valid block, or behind the last block.
use Rattle.std.specs.Prelude.{ℕ, List, length, Option, Some, None}
use Rattle.st_form.specs.Condition.{Implication}
use Rattle.cert_text.specs.Blank.{first_place, past_blanks}
use Rattle.step_report.specs.declared.conditions.Reason.{Reason}
use Rattle.step_report.specs.Refused.{trailing_text}
use Rattle.step_report.specs.Conditions.{not_proved_text}
use Rattle.step_report.specs.Goals.{proved_text}
use Rattle.block_laws.specs.Checked.{Checked, all_valid, refused, whole_text, checked_from}
use Rattle.step_plan.specs.declared.status.Status.TheVariants.{Proved, NotProved, TrailingCerts}
use Rattle.step_plan.specs.Outcome.{Outcome}
use Rattle.step_run.specs.Conditions.{Posed, setting_of}

-- all conditions are discharged: each goal is named
abbrev pub goals_proved : Posed → Outcome
goals_proved x = record { status = Proved; text = proved_text x.program.names x.steps (length x.conditions) }

-- the condition of this number isn't, and why
abbrev pub not_proved : Posed → ℕ → Implication → Reason → Outcome
not_proved x n c reason = record { status = NotProved n; text = not_proved_text x.program.names x.steps n c.name reason }

-- behind the last block, where what isn't blank stands at this place
abbrev pub ending : Posed → Option ℕ → Outcome
ending x None = goals_proved x
ending x (Some place) = record { status = TrailingCerts; text = trailing_text place }

abbrev pub check_ended : Posed → Checked → Outcome
check_ended x (all_valid h) = ending x (first_place (past_blanks h))
check_ended x (refused n c reason) = not_proved x n c reason

-- the outcome over the text of the certificates
unfoldable pub checked : Posed → List ℕ → Outcome
checked x text = check_ended x (checked_from (setting_of x.program) 1 x.conditions (whole_text text))
