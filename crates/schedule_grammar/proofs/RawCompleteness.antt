-- What is spelled is read, by the reader that judges nothing.
use Rattle.std.proofs.Common.{◌≡◌, ◌<◌, true, false, List, [], ◌∷◌, length, Some, Ok, refl, ap, ◌∙◌, arith}
use Rattle.st_tokens.specs.Stream.{◌++>◌, Lexeme, Stream, ends, more}
use Rattle.st_reading.specs.declared.mark.Mark.TheVariants as marks
use Rattle.st_reading.specs.declared.sign.Sign.{Sign}
use Rattle.st_reading.specs.declared.sign.Sign.TheVariants as signs
use Rattle.st_reading.specs.Mark.{number}
use Rattle.st_reading.specs.Sign.{sign_of, is}
use Rattle.st_reading.specs.Reading.{ahead, is_name, expected, then_reads, gives}
use Rattle.st_reading.specs.Spelling.{Is}
use Rattle.st_reading.specs.Breaches.{numeral_of}
use Rattle.st_reading.proofs.Streams.{append_stream}
use Rattle.st_reading.proofs.Numbers.{is_marked}
use Rattle.st_reading.proofs.Soundness.{values}
use Rattle.st_reading.proofs.Steadiness.{bind_ok}
use Rattle.st_reading.proofs.Tokens.{at_mark}
use Rattle.st_reading.proofs.Whiles.{while_complete}
use Rattle.schedule_reader.specs.declared.moving.Opening.{Opening}
use Rattle.schedule_reader.specs.declared.moving.Opening.TheVariants.{Idling, Label as By, Number as Numbered}
use Rattle.schedule_reader.specs.Moves.{opening_in}
use Rattle.schedule_grammar.specs.RawSchedules.{RawValue, RawSetting, RawMove, RawSchedule}
use Rattle.schedule_grammar.specs.Grammar.{IsValue, a_number, a_negative, is_true, is_false, IsSetting, sets, IsTarget, by_label, by_number, idles, takes, takes_part, IsEnded, ends_move, IsRawSchedule, a_schedule}
use Rattle.schedule_grammar.specs.Theorems.{SchedulesReadOnce}
use Rattle.schedule_grammar.proofs.RawReaders.{raw_value, raw_setting, raw_move, is_opening, raw_settings, raw_moves, raw_front, the_schedule, raw_schedule}

pub named_sign : (g : Sign) → is_name g ≡ true → g ≡ signs.Name
named_sign signs.Name h = refl
named_sign (signs.Numeral k) h = absurd cc
named_sign signs.Other h = absurd cc
named_sign signs.Nothing h = absurd cc
named_sign (signs.Marked k) h = absurd cc

pub value_complete : (ts : List Lexeme) (v : RawValue) → IsValue ts v → (after : Stream) → raw_value (ts ++> after) ≡ Ok (v, after)
unfolding numeral_of number
value_complete ts v (a_number t n e) after = rw e refl
value_complete ts v (a_negative t u n h e) after = rw (h, e) refl
value_complete ts v (is_true t h) after = let g = is_marked (sign_of t) marks.True h in rw g refl
value_complete ts v (is_false t h) after = let g = is_marked (sign_of t) marks.False h in rw g refl

pub setting_complete : (ts : List Lexeme) (x : RawSetting) (after : Stream) → IsSetting ts x → raw_setting (ts ++> after) ≡ Ok (x, after)
setting_complete ts x after (sets t e z a v h h2 l h4) = let r = value_complete a v l (more z after) in rw (append_stream a (z ∷ []) after, h, h2, r, h4) refl

pub setting_begins : (ts : List Lexeme) (x : RawSetting) (after : Stream) → IsSetting ts x → (is_name (ahead (ts ++> after)) ≡ true) × (0 < length ts)
setting_begins ts x after (sets t e z a v h h2 l h4) = (h, omega arith)

pub target_opens : (t : Lexeme) (o : Opening) → IsTarget t o → opening_in (sign_of t) ≡ Some o
unfolding number
target_opens t o (by_label u h) = let g = named_sign (sign_of t) h in rw g refl
target_opens t o (by_number u n e) = rw e refl

pub idle_opens : (t : Lexeme) → Is marks.Minus t → opening_in (sign_of t) ≡ Some Idling
idle_opens t h = rw h refl

pub no_dot : (z : Lexeme) → Is marks.Semicolon z → is (sign_of z) marks.Dot ≡ false
unfolding number
no_dot z h = at_mark (λ g. is g marks.Dot) false marks.Semicolon refl (sign_of z) h

pub move_complete : (ts : List Lexeme) (x : RawMove) (after : Stream) → IsEnded ts x → raw_move (ts ++> after) ≡ Ok (x, after)
move_complete ts x after (ends_move a z m (idles t h) e) = let o = idle_opens t h in rw (o, e) refl
move_complete ts x after (ends_move a z m (takes t By l) e) = let o = target_opens t By l in let d = no_dot z e in rw (o, d, e) refl
move_complete ts x after (ends_move a z m (takes t (Numbered n) l) e) = let o = target_opens t (Numbered n) l in let d = no_dot z e in rw (o, d, e) refl
move_complete ts x after (ends_move a z m (takes t Idling l) e) = elim l [ ]
move_complete ts x after (ends_move a z m (takes_part t d n By l f k) e) = let o = target_opens t By l in rw (o, f, k, e) refl
move_complete ts x after (ends_move a z m (takes_part t d n (Numbered i) l f k) e) = let o = target_opens t (Numbered i) l in rw (o, f, k, e) refl
move_complete ts x after (ends_move a z m (takes_part t d n Idling l f k) e) = elim l [ ]

pub move_begins : (ts : List Lexeme) (x : RawMove) (after : Stream) → IsEnded ts x → (is_opening (ahead (ts ++> after)) ≡ true) × (0 < length ts)
move_begins ts x after (ends_move a z m (idles t h) e) = let o = idle_opens t h in (rw o refl, omega arith)
move_begins ts x after (ends_move a z m (takes t o l) e) = let q = target_opens t o l in (rw q refl, omega arith)
move_begins ts x after (ends_move a z m (takes_part t d n o l f k) e) = let q = target_opens t o l in (rw q refl, omega arith)

pub no_name : (c : Lexeme) → Is marks.Colons c → is_name (sign_of c) ≡ false
no_name c h = at_mark is_name false marks.Colons refl (sign_of c) h

pub schedule_complete : (ts : List Lexeme) (x : RawSchedule) → IsRawSchedule ts x → (after : Stream) → is_opening (ahead after) ≡ false → raw_schedule (ts ++> after) ≡ Ok (x, after)
schedule_complete ts x (a_schedule a b c ss ms l e m) after h =
    let one = while_complete is_name raw_setting IsSetting setting_begins setting_complete a ss l (more c (b ++> after)) (no_name c e) in
    let two = while_complete is_opening raw_move IsEnded move_begins move_complete b ms m after h in
    let front : raw_front (a ++> more c (b ++> after)) ≡ Ok ((ss, c.start), b ++> after) = bind_ok raw_settings (λ ss. then_reads (expected marks.Colons) (λ c. gives (ss, c))) (a ++> more c (b ++> after)) ss (more c (b ++> after)) one ∙ rw e refl in
    ap raw_schedule (append_stream a (c ∷ b) after)
    ∙ bind_ok raw_front (λ f. then_reads raw_moves (λ ms. gives (the_schedule f ms))) (a ++> more c (b ++> after)) (ss, c.start) (b ++> after) front
    ∙ bind_ok raw_moves (λ ms. gives (the_schedule (ss, c.start) ms)) (b ++> after) ms after two

pub no_opening_ends : is_opening signs.Nothing ≡ false
no_opening_ends = refl

pub schedules_read_once : SchedulesReadOnce
schedules_read_once ts x y l m = (values (raw_schedule (ts ++> ends 0)) x y (ends 0) (ends 0) (schedule_complete ts x l (ends 0) refl) (schedule_complete ts y m (ends 0) refl)).0
