-- The ends of requests are decided.
use Rattle.std.proofs.Common.{ℕ, List, length, Bool, true, false, cond, nat_lt}
use Rattle.std.specs.Prelude.{Option, Some, None}
use Rattle.st_tokens.specs.declared.limit.LimitKind.TheVariants as limits
use Rattle.st_certificate.specs.Tree.{Tree}
use Rattle.cert_text.specs.Blank.{first_place, past_blanks}
use Rattle.block_laws.specs.Checked.{Checked, all_valid, refused, whole_text, checked_from}
use Rattle.step_report.specs.Goals.{certificates_text}
use Rattle.step_plan.specs.declared.status.Status.{Status}
use Rattle.step_plan.specs.declared.status.Status.TheVariants.{Proved, ScheduleRefused}
use Rattle.step_plan.specs.Limits.{limited}
use Rattle.step_plan.specs.Outcome.{Outcome, IsDecided}
use Rattle.std.specs.Prelude.{Result, Ok, Err}
use Rattle.st_tokens.specs.declared.kind.TokenFault.{TokenFault}
use Rattle.st_tokens.specs.declared.kind.TokenFault.TheVariants as tokens
use Rattle.st_reading.specs.Reading.{Stop, syntax, broken, other}
use Rattle.st_reading.specs.Breaches.{Breach, broke, limited as over, crowded, unformed}
use Rattle.spl_semantics.specs.Stores.{holds}
use Rattle.spl_semantics.specs.Data.{store_of}
use Rattle.schedule_reader.specs.Schedules.{PlainSchedule, schedule_spelled}
use Rattle.trace_player.specs.Playing as playing
use Rattle.step_report.specs.declared.refusals.FileRole.{FileRole}
use Rattle.step_report.specs.declared.refusals.FileRole.TheVariants.{Schedule}
use Rattle.step_run.specs.Outcome.{token_fault, text_refused}
use Rattle.step_run.specs.Scheduled.{start_of}
use Rattle.step_run.specs.Traced.{Scripted, no_start, play_ended, schedule_played, schedule_ended, traced}
use Rattle.step_run.specs.Conditions.{Posed, setting_of}
use Rattle.step_run.specs.Checked.{goals_proved, ending, check_ended, checked}
use Rattle.step_run.specs.Verified.{Verified, all_found, left_open, given_up, verified_from, search_ended, searched, certificates, goals_counted, verified, written, counted}

ending_decided : (x : Posed) (place : Option ℕ) → IsDecided (ending x place).status
ending_decided x None = tt
ending_decided x (Some place) = tt

check_decided : (x : Posed) (r : Checked) → IsDecided (check_ended x r).status
check_decided x (all_valid h) = ending_decided x (first_place (past_blanks h))
check_decided x (refused n c reason) = tt

pub checked_decided : (x : Posed) (text : List ℕ) → IsDecided (checked x text).status
unfolding checked
checked_decided x text = check_decided x (checked_from (setting_of x.program) 1 x.conditions (whole_text text))

search_decided : (x : Posed) (all : List Tree → Outcome) → ((ts : List Tree) → IsDecided (all ts).status) → (r : Verified) → IsDecided (search_ended x all r).status
search_decided x all h (all_found ts) = h ts
search_decided x all h (left_open n c path state) = tt
search_decided x all h (given_up n c path stage) = tt

searched_decided : (x : Posed) (all : List Tree → Outcome) → ((ts : List Tree) → IsDecided (all ts).status) → IsDecided (searched x all).status
unfolding searched
searched_decided x all h = search_decided x all h (verified_from (setting_of x.program) 1 x.conditions)

certificates_decided : (ts : List Tree) → IsDecided (certificates ts).status
certificates_decided ts = by (nat_lt 268435456 (length (certificates_text ts))) where
  by : (b : Bool) → IsDecided (cond {A = Outcome} b (limited limits.Certificates) (record { status = Proved; text = certificates_text ts })).status
  by true = tt
  by false = tt

pub verified_decided : (x : Posed) → IsDecided (verified x).status
verified_decided x = searched_decided x (λ ts. goals_proved x) (λ ts. tt)

pub written_decided : (x : Posed) → IsDecided (written x).status
written_decided x = searched_decided x certificates certificates_decided

pub counted_decided : (x : Posed) → IsDecided (counted x).status
counted_decided x = searched_decided x (goals_counted x) (λ ts. tt)

-- a text that is refused
token_decided : (status : Status) (role : FileRole) → IsDecided status → (f : TokenFault) → IsDecided (token_fault status role f).status
token_decided status role h (tokens.BadByte place) = h
token_decided status role h (tokens.LongNumber place) = h

pub text_decided : (status : Status) (role : FileRole) → IsDecided status → (f : Stop Breach) → IsDecided (text_refused status role f).status
text_decided status role h (syntax place) = h
text_decided status role h (broken f) = token_decided status role h f
text_decided status role h (other (broke rule place)) = h
text_decided status role h (other (over kind place)) = tt
text_decided status role h (other (crowded place)) = tt
text_decided status role h (other (unformed place)) = h

-- the ends of traces

play_decided : (x : Scripted) (s : PlainSchedule) (r : playing.Outcome) → IsDecided (play_ended x s r).status
play_decided x s (playing.made later) = tt
play_decided x s (playing.too_large k) = tt
play_decided x s (playing.illegal k) = tt

played_decided : (x : Scripted) (s : PlainSchedule) → IsDecided (schedule_played x s).status
unfolding schedule_played
played_decided x s = by (holds x.program.initial (store_of s.store)) where
  by : (b : Bool) → IsDecided (cond {A = Outcome} b (play_ended x s (playing.outcome x.program.processes s.moves (start_of x.program s) 0)) no_start).status
  by true = play_decided x s (playing.outcome x.program.processes s.moves (start_of x.program s) 0)
  by false = tt

schedule_decided : (x : Scripted) (r : Result PlainSchedule (Stop Breach)) → IsDecided (schedule_ended x r).status
schedule_decided x (Ok s) = played_decided x s
schedule_decided x (Err f) = text_decided ScheduleRefused Schedule tt f

pub traced_decided : (x : Scripted) (text : List ℕ) → IsDecided (traced x text).status
unfolding traced
traced_decided x text = schedule_decided x (schedule_spelled x.program.names x.program.processes text)
