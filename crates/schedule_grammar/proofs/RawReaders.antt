-- The readers of schedules that judge nothing, one for each production.
use Rattle.std.proofs.Common.{ℕ, Bool, cond, pos, List, Option, Some, None, Ok, Err}
use Rattle.std.specs.Prelude.{neg_ℤ, is_some}
use Rattle.st_tokens.specs.Stream.{behind}
use Rattle.st_reading.specs.declared.mark.Mark.TheVariants as marks
use Rattle.st_reading.specs.declared.sign.Sign.{Sign}
use Rattle.st_reading.specs.Sign.{is}
use Rattle.st_reading.specs.Reading.{Label, ahead, place_of, name_of, is_name, refusal, expected, named, then_reads, gives, on_operator}
use Rattle.st_reading.specs.Breaches.{Reader, numeral_of}
use Rattle.st_reading.proofs.Whiles.{while_of}
use Rattle.st_program.specs.declared.residuals.Datum.{Datum}
use Rattle.st_program.specs.declared.residuals.Datum.TheVariants.{Number}
use Rattle.schedule_reader.specs.declared.moving.Opening.{Opening}
use Rattle.schedule_reader.specs.declared.moving.Opening.TheVariants.{Idling, Label as By, Number as Numbered}
use Rattle.schedule_reader.specs.Values.{value_in}
use Rattle.schedule_reader.specs.Moves.{opening_in}
use Rattle.schedule_grammar.specs.RawSchedules.{RawValue, RawSetting, RawMove, RawSchedule}

abbrev pub the_value : Datum → ℕ → ℕ → RawValue
the_value d place n = record { datum = d; place = place; size = n }

abbrev pub raw_value : Reader RawValue
raw_value s =
    cond (is (ahead s) marks.Minus)
    (then_reads numeral_of (λ n. gives (the_value (Number (neg_ℤ (pos n.0))) (place_of s) 2)) (behind s))
    (on_operator (value_in (ahead s)) (Err (refusal s)) (λ d. Ok (the_value d (place_of s) 1, behind s)))

abbrev pub the_setting : Label → RawValue → RawSetting
the_setting l v = record { name = l; value = v }

abbrev pub raw_setting : Reader RawSetting
raw_setting = then_reads named (λ l. then_reads (expected marks.Equal) (λ e. then_reads raw_value (λ v. then_reads (expected marks.Semicolon) (λ z. gives (the_setting l v)))))

abbrev pub raw_part : Reader (Option Label)
raw_part s = cond (is (ahead s) marks.Dot) (then_reads named (λ l. gives (Some l)) (behind s)) (Ok (None, s))

abbrev pub the_move : Opening → Label → Option Label → RawMove
the_move o l part = record { opening = o; first = l; part = part }

abbrev pub raw_behind : Opening → Label → Reader RawMove
raw_behind Idling l s = Ok (the_move Idling l None, s)
raw_behind By l s = then_reads raw_part (λ q. gives (the_move By l q)) s
raw_behind (Numbered n) l s = then_reads raw_part (λ q. gives (the_move (Numbered n) l q)) s

abbrev pub raw_target : Reader RawMove
raw_target s = on_operator (opening_in (ahead s)) (Err (refusal s)) (λ o. raw_behind o (name_of s) (behind s))

abbrev pub raw_move : Reader RawMove
raw_move = then_reads raw_target (λ m. then_reads (expected marks.Semicolon) (λ z. gives m))

abbrev pub is_opening : Sign → Bool
is_opening g = is_some (opening_in g)

abbrev pub raw_settings : Reader (List RawSetting)
raw_settings = while_of is_name raw_setting

abbrev pub raw_moves : Reader (List RawMove)
raw_moves = while_of is_opening raw_move

abbrev pub raw_front : Reader (List RawSetting × ℕ)
raw_front = then_reads raw_settings (λ ss. then_reads (expected marks.Colons) (λ c. gives (ss, c)))

abbrev pub the_schedule : List RawSetting × ℕ → List RawMove → RawSchedule
the_schedule f ms = record { settings = f.0; colons = f.1; moves = ms }

abbrev pub raw_schedule : Reader RawSchedule
raw_schedule = then_reads raw_front (λ f. then_reads raw_moves (λ ms. gives (the_schedule f ms)))
