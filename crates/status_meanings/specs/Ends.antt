-- How each command ends behind its texts: a check, a search, a trace, a search for invariances.
use Rattle.std.specs.Prelude.{◌≡◌, ℕ, ◌+◌, ◌<◌, false, true, List, ◌∷◌, ◌++◌, length, Option, Some, None}
use Rattle.st_tokens.specs.Stream.{text_stream}
use Rattle.st_tokens.specs.declared.limit.LimitKind.TheVariants as limits
use Rattle.st_form.specs.Condition.{Implication}
use Rattle.st_form.specs.declared.conditions.TransName.{TransName}
use Rattle.st_certificate.specs.Tree.{Tree}
use Rattle.st_reading.specs.Reading.{Stop}
use Rattle.st_reading.specs.Breaches.{Breach}
use Rattle.elimination_laws.specs.declared.stage.WideStage.{WideStage}
use Rattle.farkas_check.specs.Problem.{Setting}
use Rattle.cert_text.specs.Blank.{first_place, past_blanks}
use Rattle.cert_text.specs.Held.{Held}
use Rattle.block_laws.specs.Blocks.{HasBlocks}
use Rattle.block_laws.specs.Checked.{whole_text}
use Rattle.search_laws.specs.Moves.{Verdict, open_at, wide_at, decided}
use Rattle.search_laws.specs.States as searching
use Rattle.search_laws.specs.Walks.{PathStep}
use Rattle.spl_semantics.specs.Data.{store_of}
use Rattle.spl_semantics.specs.Runs.{State}
use Rattle.spl_semantics.specs.Stores.{holds}
use Rattle.spl_typer.specs.Programs.{Typed}
use Rattle.schedule_reader.specs.Schedules.{PlainSchedule}
use Rattle.schedule_grammar.specs.FirstFault.{IsFirstFault}
use Rattle.schedule_grammar.specs.Theorems.{SpellsSchedule}
use Rattle.trace_laws.specs.Endings.{IsWideBehind, IsStuckBehind}
use Rattle.equation_laws.specs.Equations.{PlainEquation, found}
use Rattle.step_report.specs.declared.conditions.Reason.{Reason}
use Rattle.step_report.specs.declared.conditions.Reason.TheVariants.{Open, Wide}
use Rattle.step_report.specs.Ends.{wide_invariants_text}
use Rattle.step_report.specs.Goals.{certificates_text}
use Rattle.step_report.specs.Refused.{trailing_text}
use Rattle.step_report.specs.Searches.{open_text, wide_text}
use Rattle.step_plan.specs.declared.status.Status.TheVariants.{Proved, TrailingCerts, InvariantsWide}
use Rattle.step_plan.specs.Limits.{limited}
use Rattle.step_plan.specs.Outcome.{Outcome}
use Rattle.step_run.specs.Conditions.{Posed, system_of, setting_of}
use Rattle.step_run.specs.Checked.{goals_proved, not_proved}
use Rattle.step_run.specs.Verified.{undecided}
use Rattle.step_run.specs.Invariants.{invariants_text}
use Rattle.step_run.specs.Scheduled.{start_of, observed_of, IsRunOfSchedule}
use Rattle.step_run.specs.Traced.{Scripted, schedule_refused, report_of, no_start, too_large_at, not_enabled}
use Rattle.step_run.specs.WellFormed.{AreFound, IsShort}
use Rattle.status_meanings.specs.Blocks.{HaveBlocks, IsFirstWithout}

-- THE TEXT OF CERTIFICATES
-- behind valid blocks for all conditions something stands that isn't blank, at this place
pub record IsTrailing (x : Posed) (ct : List ℕ) (place : ℕ) : Type 0 where
  pub rest : Held
  pub blocks : HaveBlocks (setting_of x.program) x.conditions (whole_text ct) rest
  pub stands : first_place (past_blanks rest) ≡ Some place

pub data CheckGoes (x : Posed) (ct : List ℕ) : Outcome → Type 0 where
  lacks_block : (n : ℕ) (c : Implication) (reason : Reason) → IsFirstWithout (setting_of x.program) x.conditions (whole_text ct) n c reason → CheckGoes x ct (not_proved x n c reason)
  has_trailing : (place : ℕ) → IsTrailing x ct place → CheckGoes x ct (record { status = TrailingCerts; text = trailing_text place })
  has_blocks : HasBlocks (setting_of x.program) x.conditions (whole_text ct) → CheckGoes x ct (goals_proved x)

-- A SEARCH
-- condition m of those from number n on has this verdict, and those before it are decided valid
pub record IsFirstOpen (k : Setting) (n : ℕ) (cs : List Implication) (m : ℕ) (c : Implication) (v : Verdict) : Type 0 where
  pub before : List Implication
  pub further : List Implication
  pub are : cs ≡ before ++ c ∷ further
  pub number : m ≡ n + length before
  pub trees : List Tree
  pub valid : AreFound k before trees
  pub verdict : decided k c.given c.shown ≡ v

-- it is left open, the search gives up on it, or there are certificates for all
pub data SearchGoes (x : Posed) (Next : List Tree → Outcome → Type 0) : Outcome → Type 0 where
  leaves_open : (n : ℕ) (c : Implication) (path : List PathStep) (state : Option searching.State) → IsFirstOpen (setting_of x.program) 1 x.conditions n c (open_at path state)
      → SearchGoes x Next (undecided x n c Open (open_text x.program.names path state))
  gives_up : (n : ℕ) (c : Implication) (path : List PathStep) (stage : WideStage) → IsFirstOpen (setting_of x.program) 1 x.conditions n c (wide_at path stage)
      → SearchGoes x Next (undecided x n c Wide (wide_text x.program.names path stage))
  finds_all : (ts : List Tree) (o : Outcome) → AreFound (setting_of x.program) x.conditions ts → Next ts o → SearchGoes x Next o

-- certificates are written, or too long to be checked
pub data WritesGo (ts : List Tree) : Outcome → Type 0 where
  writes : IsShort (certificates_text ts) → WritesGo ts (record { status = Proved; text = certificates_text ts })
  writes_none : 268435456 < length (certificates_text ts) → WritesGo ts (limited limits.Certificates)

-- A TRACE
-- the schedule is refused for its first fault; or its values don't meet the initial condition; or the run of its moves comes to a
-- state in which a number is too large, or to a move that no step makes; or it is a run
pub data TraceGoes (x : Scripted) (st : List ℕ) : Outcome → Type 0 where
  off_schedule : (f : Stop Breach) → IsFirstFault x.program.names x.program.processes (text_stream st) f → TraceGoes x st (schedule_refused f)
  starts_nowhere : (s : PlainSchedule) → SpellsSchedule x.program.names x.program.processes st s → holds x.program.initial (store_of s.store) ≡ false → TraceGoes x st no_start
  grows_wide : (s : PlainSchedule) (k : ℕ) → SpellsSchedule x.program.names x.program.processes st s → holds x.program.initial (store_of s.store) ≡ true
      → IsWideBehind x.program.processes (start_of x.program s) s.moves k → TraceGoes x st (too_large_at k)
  gets_stuck : (s : PlainSchedule) (k : ℕ) → SpellsSchedule x.program.names x.program.processes st s → holds x.program.initial (store_of s.store) ≡ true
      → IsStuckBehind x.program.processes (start_of x.program s) s.moves k → TraceGoes x st (not_enabled k)
  is_run : (s : PlainSchedule) (later : List (TransName × State)) → SpellsSchedule x.program.names x.program.processes st s → IsRunOfSchedule x.program s later
      → TraceGoes x st (record { status = Proved; text = report_of x (length s.moves) (observed_of x.program s later) })

-- INVARIANCES
-- a number is too large while equations are looked for, or these are found
pub data FindsGo (p : Typed) : Outcome → Type 0 where
  finds_none : found (system_of p) ≡ None → FindsGo p (record { status = InvariantsWide; text = wide_invariants_text })
  finds_these : (es : List PlainEquation) → found (system_of p) ≡ Some es → FindsGo p (record { status = Proved; text = invariants_text p es })
