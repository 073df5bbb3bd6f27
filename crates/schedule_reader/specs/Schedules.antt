-- Whole schedules: how they are read, up to the first fault.
use Rattle.std.specs.Prelude.{ℕ, cond, List, [], ◌∷◌, length, replicate, Option, Some, None, Result}
use Rattle.std.specs.Option.{option_map, option_and_then}
use Rattle.st_tokens.specs.Stream.{text_stream}
use Rattle.st_reading.specs.declared.mark.Mark.TheVariants as marks
use Rattle.st_reading.specs.declared.sign.Sign.{Sign}
use Rattle.st_reading.specs.Reading.{Stop, is_name, expected, at_end, gives, then_reads}
use Rattle.st_reading.specs.Rule as rules
use Rattle.st_reading.specs.Breaches.{Breach, broke, Reader, present, alone}
use Rattle.st_form.specs.declared.conditions.TransName.{TransName}
use Rattle.st_program.specs.Names.{Names}
use Rattle.st_program.specs.Tree.{Processes}
use Rattle.st_program.specs.declared.residuals.Datum.{Datum}
use Rattle.schedule_reader.specs.declared.schedule.Schedule.{Schedule}
use Rattle.schedule_reader.specs.Items.{items}
use Rattle.schedule_reader.specs.Settings.{Settings, setting_of}
use Rattle.schedule_reader.specs.Moves.{opening_in, next_move_of}

-- a value for each variable, and the names of the steps
pub record PlainSchedule : Type 0 where
  pub store : List Datum
  pub moves : List TransName

abbrev pub plain_schedule : Schedule → PlainSchedule
plain_schedule s = record { store = s.store.items; moves = s.moves.items }

-- the values of all variables, if each has one
abbrev pub all_set : Settings → Option (List Datum)
all_set [] = Some []
all_set (x ∷ xs) = option_and_then (λ d. option_map (λ ds. d ∷ ds) (all_set xs)) x

-- a setting begins with a name
abbrev pub only_name : Sign → Option (Unit {0})
only_name g = cond (is_name g) (Some tt) None

module _ (names : Names) where
  -- { name "=" value ";" }
  unfoldable pub settings_of : Settings → Reader Settings
  settings_of store s = items only_name (λ o. setting_of names) store s

  -- { name "=" value ";" } "::", with each variable set
  unfoldable pub store_of : Reader (List Datum)
  store_of s = then_reads (settings_of (replicate (length names.variables) None)) (λ store. then_reads (expected marks.Colons) (λ place. present (broke rules.Unset place) (all_set store))) s

  module _ (p : Processes) where
    -- { move ";" }
    unfoldable pub moves_of : Reader (List TransName)
    moves_of s = items opening_in (next_move_of names p) [] s

    -- { name "=" value ";" } "::" { move ";" }, and the end of the text
    unfoldable pub schedule_of : Reader PlainSchedule
    schedule_of s = then_reads store_of (λ ds. then_reads moves_of (λ ms. then_reads at_end (λ e. gives (record { store = ds; moves = ms })))) s

-- the schedule that the text spells, or its first fault
unfoldable pub schedule_spelled : Names → Processes → List ℕ → Result PlainSchedule (Stop Breach)
schedule_spelled names p text = alone (schedule_of names p (text_stream text))
