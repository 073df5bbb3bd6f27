-- What is promised of the texts of schedules.
use Rattle.std.specs.Prelude.{◌≡◌, ◌↔◌, ℕ, List, [], Ok, Err}
use Rattle.st_tokens.specs.Stream.{◌++>◌, Lexeme, ends, text_stream}
use Rattle.st_reading.specs.Reading.{Stop}
use Rattle.st_reading.specs.Breaches.{Breach}
use Rattle.st_program.specs.Names.{Names}
use Rattle.st_program.specs.Tree.{Processes}
use Rattle.schedule_reader.specs.Schedules.{PlainSchedule, schedule_spelled}
use Rattle.schedule_grammar.specs.RawSchedules.{RawSchedule}
use Rattle.schedule_grammar.specs.Grammar.{IsRawSchedule}
use Rattle.schedule_grammar.specs.Rules.{broken_rules, IsScheduled}
use Rattle.schedule_grammar.specs.FirstFault.{IsFirstFault}

-- the text spells the schedule: its tokens are those of a tree that breaks no rule
pub record SpellsSchedule (names : Names) (p : Processes) (text : List ℕ) (s : PlainSchedule) : Type 0 where
  pub tokens : List Lexeme
  pub place : ℕ
  pub has : text_stream text ≡ tokens ++> ends place
  pub raw : RawSchedule
  pub spells : IsRawSchedule tokens raw
  pub lawful : broken_rules names p raw ≡ []
  pub scheduled : IsScheduled names p raw s

abbrev pub SchedulesReadOnce : Type 0
SchedulesReadOnce = (ts : List Lexeme) (x y : RawSchedule) → IsRawSchedule ts x → IsRawSchedule ts y → x ≡ y

abbrev pub SpelledSchedulesAreRead : Type 0
SpelledSchedulesAreRead = (names : Names) (p : Processes) (text : List ℕ) (s : PlainSchedule) → SpellsSchedule names p text s → schedule_spelled names p text ≡ Ok s

abbrev pub ReadSchedulesAreSpelled : Type 0
ReadSchedulesAreSpelled = (names : Names) (p : Processes) (text : List ℕ) (s : PlainSchedule) → schedule_spelled names p text ≡ Ok s → SpellsSchedule names p text s

-- A text is refused exactly for its first fault.
abbrev pub SchedulesFirstFault : Type 0
SchedulesFirstFault = (names : Names) (p : Processes) (text : List ℕ) (f : Stop Breach) → (schedule_spelled names p text ≡ Err f) ↔ IsFirstFault names p (text_stream text) f
