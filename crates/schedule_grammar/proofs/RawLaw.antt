-- Where the plain reader stops, what it took begins a schedule of the grammar, and none goes on.
use Rattle.std.proofs.Common.{◌≡◌, ℕ, ◌<◌, Bool, pos, List, [], ◌∷◌, Some, None, Ok, Err, refl, ap, arith, length, length-append}
use Rattle.std.specs.Prelude.{neg_ℤ}
use Rattle.st_tokens.specs.Stream.{Lexeme, Stream, ends}
use Rattle.st_reading.specs.declared.mark.Mark.TheVariants as marks
use Rattle.st_reading.specs.declared.sign.Sign.{Sign}
use Rattle.st_reading.specs.Mark.{number}
use Rattle.st_reading.specs.Sign.{is}
use Rattle.st_reading.specs.Reading.{Stop, syntax, Label, size, label_of, is_name, expected, named, then_reads, gives, whole}
use Rattle.st_reading.specs.Breaches.{Breach, Reader, numeral_in, numeral_of}
use Rattle.st_reading.specs.Phrases.{Many}
use Rattle.st_reading.specs.Steady.{Viable, calmer, takes, wider, moves, anything}
use Rattle.st_reading.specs.Theorem.{IsFirst}
use Rattle.st_reading.proofs.Spelled.{none_spelled, one_spelled}
use Rattle.st_reading.proofs.Tokens.{but, not_that}
use Rattle.st_reading.proofs.Soundness.{sound_shrinks}
use Rattle.st_reading.proofs.Lawful.{lawful_bind, lawful_map, lawful_gives, lawful_expected, lawful_named, lawful_if, lawful_weak}
use Rattle.st_reading.proofs.Branches.{picking, lawful_pick, lawful_fork}
use Rattle.st_reading.proofs.Theorems.{whole_first, first_as}
use Rattle.st_reading.proofs.JudgedParts.{but_not}
use Rattle.st_reading.proofs.Whiles.{while_sound, stream_size}
use Rattle.st_reading.proofs.FairReaders.{Fair, fair_loop}
use Rattle.st_program.specs.declared.residuals.Datum.TheVariants.{Number}
use Rattle.schedule_reader.specs.declared.moving.Opening.{Opening}
use Rattle.schedule_reader.specs.declared.moving.Opening.TheVariants.{Idling, Label as By, Number as Numbered}
use Rattle.schedule_reader.specs.Values.{value_in}
use Rattle.schedule_reader.specs.Moves.{opening_in}
use Rattle.schedule_grammar.specs.RawSchedules.{RawValue, RawSetting, RawMove}
use Rattle.schedule_grammar.specs.Grammar.{IsSetting, sets, IsEnded, ends_move, IsRawSchedule}
use Rattle.schedule_grammar.proofs.RawReaders.{the_value, raw_value, the_setting, raw_setting, the_move, raw_part, raw_behind, raw_target, raw_move, is_opening, raw_settings, raw_moves, raw_front, the_schedule, raw_schedule}
use Rattle.schedule_grammar.proofs.RawReading.{setting_sound, move_sound, schedule_sound}
use Rattle.schedule_grammar.proofs.RawCompleteness.{schedule_complete}
use Rattle.schedule_grammar.proofs.Witnesses.{equal_token, semicolon_token, colons_token, minus_token, zero_token, name_token, equal_spelled, semicolon_spelled, colons_spelled, minus_spelled, zero_spelled, name_spelled, equal_is, semicolon_is, colons_is, name_is}

-- ITEMS TAKE TOKENS
pub setting_strict : (s : Stream) (y : RawSetting) (rest : Stream) → raw_setting s ≡ Ok (y, rest) → size rest < size s
setting_strict s y rest h = let c = setting_sound s y rest h in let n = nonempty c.text y c.spells in omega (arith, stream_size c.text rest, ap size c.is, n)
  where
    nonempty : (ts : List Lexeme) (y : RawSetting) → IsSetting ts y → 0 < length ts
    nonempty ts y (sets t e z a v h h2 l h4) = omega arith

pub move_strict : (s : Stream) (y : RawMove) (rest : Stream) → raw_move s ≡ Ok (y, rest) → size rest < size s
move_strict s y rest h = let c = move_sound s y rest h in let n = nonempty c.text y c.spells in omega (arith, stream_size c.text rest, ap size c.is, n)
  where
    nonempty : (ts : List Lexeme) (y : RawMove) → IsEnded ts y → 0 < length ts
    nonempty ts y (ends_move a z m l e) = omega (arith, length-append a (z ∷ []))

-- THE LAW OF EACH READER
fair_numeral : Fair anything anything numeral_of
unfolding numeral_of
fair_numeral = lawful_pick anything anything numeral_in refl (λ n k l. gives (n, k)) (λ i n k l. gives (n, k)) zero_token zero_spelled 0 refl refl (λ i. record { others = []; spelled = none_spelled; value = (0, 0); begins = λ e after h. refl; reads = λ after h. refl }) (λ n k l. lawful_gives anything anything (n, k))

fair_value : Fair anything anything raw_value
unfolding number numeral_of
fair_value =
    lawful_fork anything anything anything refl (λ g. is g marks.Minus) refl
    (λ n l. then_reads numeral_of (λ k. gives (the_value (Number (neg_ℤ (pos k.0))) n 2))) (λ i n l. then_reads numeral_of (λ k. gives (the_value (Number (neg_ℤ (pos k.0))) n 2)))
    raw_single (λ i. raw_single) minus_token minus_spelled refl refl
    (λ i. negative) (λ n l. lawful_map anything anything (λ g h. h) (λ k. the_value (Number (neg_ℤ (pos k.0))) n 2) numeral_of (λ i. numeral_of) fair_numeral)
    (syntax 0) refl
    (lawful_pick anything anything value_in refl (λ d n l. gives (the_value d n 1)) (λ i d n l. gives (the_value d n 1)) zero_token zero_spelled (Number (pos 0)) refl refl (λ i. record { others = []; spelled = none_spelled; value = the_value (Number (pos 0)) 0 1; begins = λ e after h. refl; reads = λ after h. refl }) (λ d n l. lawful_gives anything anything (the_value d n 1)))
  where
    raw_single : Reader RawValue
    raw_single s = picking value_in (λ d n l. gives (the_value d n 1)) s

    negative : Viable anything anything (then_reads numeral_of (λ k. gives (the_value (Number (neg_ℤ (pos k.0))) 0 2))) []
    negative = record { others = zero_token ∷ []; spelled = one_spelled zero_token zero_spelled; value = the_value (Number (neg_ℤ (pos 0))) 0 2; begins = λ e after h. refl; reads = λ after h. refl }

-- one plain reader behind another, that takes whatever follows
abbrev then_fair : {A B : Type 0} → (calm2 : Sign → Bool) → (r : Reader A) → (q : A → Reader B) → Fair anything anything r → ((x : A) → Fair anything calm2 (q x)) → Fair anything calm2 (then_reads r q)
then_fair calm2 r q l m = lawful_bind anything anything anything calm2 (λ g h. refl) r (λ i. r) q (λ i. q) (λ x. wider (λ g h. refl)) (wider (λ g h. refl)) (calmer (λ g h. refl)) l m

fair_ended : {A : Type 0} (x : A) → Fair {X = Breach} anything anything (then_reads (expected marks.Semicolon) (λ z. gives x))
fair_ended x = then_fair anything (expected marks.Semicolon) (λ z. gives x) (lawful_expected anything anything marks.Semicolon semicolon_token semicolon_spelled semicolon_is refl) (λ z. lawful_gives anything anything x)

fair_setting : Fair anything anything raw_setting
fair_setting =
    then_fair anything named _ (lawful_named anything anything name_token name_spelled name_is refl) (λ l.
    then_fair anything (expected marks.Equal) _ (lawful_expected anything anything marks.Equal equal_token equal_spelled equal_is refl) (λ e.
    then_fair anything raw_value _ fair_value (λ v. fair_ended (the_setting l v))))

fair_part : Fair (but marks.Dot) (but marks.Dot) raw_part
fair_part =
    lawful_if (but marks.Dot) (but marks.Dot) (λ g h. h) (λ g. is g marks.Dot) refl (λ n l. then_reads named (λ l. gives (Some l))) (λ i n l. then_reads named (λ l. gives (Some l))) (gives None) (λ i. gives None)
    (λ n l. at_part) (lawful_gives (but marks.Dot) (but marks.Dot) None) (not_that marks.Dot)
  where
    at_part : Fair anything (but marks.Dot) (then_reads {X = Breach} named (λ l. gives (Some l)))
    at_part = then_fair (but marks.Dot) named (λ l. gives (Some l)) (lawful_named anything anything name_token name_spelled name_is refl) (λ l. lawful_gives anything (but marks.Dot) (Some l))

fair_named : (o : Opening) (l : Label) → Fair anything (but marks.Dot) (then_reads raw_part (λ q. gives (the_move o l q)))
fair_named o l = lawful_map anything (but marks.Dot) (λ g h. refl) (λ q. the_move o l q) raw_part (λ i. raw_part) (lawful_weak (but marks.Dot) anything (but marks.Dot) (λ g h. refl) raw_part (λ i. raw_part) fair_part)

fair_behind : (o : Opening) (l : Label) → Fair anything (but marks.Dot) (raw_behind o l)
fair_behind Idling l = lawful_gives anything (but marks.Dot) (the_move Idling l None)
fair_behind By l = fair_named By l
fair_behind (Numbered n) l = fair_named (Numbered n) l

fair_target : Fair anything (but marks.Dot) raw_target
unfolding number
fair_target = lawful_pick anything (but marks.Dot) opening_in refl raw_behind_at (λ i. raw_behind_at) minus_token minus_spelled Idling refl refl (λ i. record { others = []; spelled = none_spelled; value = the_move Idling (label_of minus_token) None; begins = λ e after h. refl; reads = λ after h. refl }) (λ o n l. fair_behind o l)
  where
    raw_behind_at : Opening → ℕ → Label → Reader RawMove
    raw_behind_at o n l s = raw_behind o l s

fair_move : Fair anything anything raw_move
unfolding number
fair_move =
    lawful_bind anything (but marks.Dot) (but marks.Dot) anything (λ g h. h) raw_target (λ i. raw_target) ending (λ i. ending) (λ m. moves refl (syntax 0) refl) (wider (λ g h. refl)) (takes refl (λ m. syntax 0) (λ m. refl)) fair_target (λ m.
    lawful_bind (but marks.Dot) anything anything anything (λ g h. refl) (expected marks.Semicolon) (λ i. expected marks.Semicolon) (λ z. gives m) (λ i z. gives m) (λ z. wider (λ g h. refl)) (moves refl (syntax 0) refl) (calmer (λ g h. refl)) (lawful_expected (but marks.Dot) anything marks.Semicolon semicolon_token semicolon_spelled semicolon_is refl) (λ z. lawful_gives anything anything m))
  where
    ending : RawMove → Reader RawMove
    ending m = then_reads (expected marks.Semicolon) (λ z. gives m)

-- ALL OF THEM
fair_settings : Fair anything (but_not is_name) raw_settings
fair_settings = fair_loop is_name refl raw_setting setting_strict (syntax 0) refl fair_setting (sound_shrinks raw_settings (Many IsSetting) (while_sound is_name raw_setting IsSetting setting_sound))

fair_moves : Fair anything (but_not is_opening) raw_moves
fair_moves = fair_loop is_opening refl raw_move move_strict (syntax 0) refl fair_move (sound_shrinks raw_moves (Many IsEnded) (while_sound is_opening raw_move IsEnded move_sound))

fair_front : Fair anything anything raw_front
fair_front =
    lawful_bind anything (but_not is_name) (but_not is_name) anything (λ g h. h) raw_settings (λ i. raw_settings) colons (λ i. colons) (λ ss. moves refl (syntax 0) refl) (wider (λ g h. refl)) (takes refl (λ ss. syntax 0) (λ ss. refl)) fair_settings (λ ss.
    lawful_bind (but_not is_name) anything anything anything (λ g h. refl) (expected marks.Colons) (λ i. expected marks.Colons) (λ c. gives (ss, c)) (λ i c. gives (ss, c)) (λ z. wider (λ g h. refl)) (moves refl (syntax 0) refl) (calmer (λ g h. refl)) (lawful_expected (but_not is_name) anything marks.Colons colons_token colons_spelled colons_is refl) (λ c. lawful_gives anything anything (ss, c)))
  where
    colons : List RawSetting → Reader (List RawSetting × ℕ)
    colons ss = then_reads (expected marks.Colons) (λ c. gives (ss, c))

fair_schedule : Fair anything (but_not is_opening) raw_schedule
fair_schedule =
    then_fair (but_not is_opening) raw_front _ fair_front (λ f.
    lawful_map anything (but_not is_opening) (λ g h. refl) (the_schedule f) raw_moves (λ i. raw_moves) fair_moves)

-- where the plain reader of a whole text stops
pub raw_first : (s : Stream) (f : Stop Breach) → whole raw_schedule s ≡ Err f → IsFirst IsRawSchedule s f
raw_first s f h =
    first_as (λ ts x. (i : Unit {0}) × IsRawSchedule ts x) IsRawSchedule (λ ts x l. l.1) (λ ts x l. (tt, l)) s f
    (whole_first anything (but_not is_opening) refl raw_schedule (λ i. raw_schedule) tt (λ i. IsRawSchedule) (λ i. schedule_sound) (λ i ts x q l. schedule_complete ts x l (ends q) refl) s f (fair_schedule.law s) h)
