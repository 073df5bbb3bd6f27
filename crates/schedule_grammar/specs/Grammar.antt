-- The grammar of schedules: which token lists stand for which trees, one constructor for each production. No rule is asked.
use Rattle.std.specs.Prelude.{◌≡◌, ℕ, true, false, pos, neg_ℤ, List, [], ◌∷◌, ◌++◌, Some, None}
use Rattle.st_tokens.specs.Stream.{Lexeme}
use Rattle.st_reading.specs.declared.mark.Mark.TheVariants as marks
use Rattle.st_reading.specs.declared.sign.Sign.TheVariants as signs
use Rattle.st_reading.specs.Sign.{sign_of}
use Rattle.st_reading.specs.Reading.{label_of}
use Rattle.st_reading.specs.Spelling.{Is, IsName}
use Rattle.st_reading.specs.Phrases.{Many}
use Rattle.st_program.specs.declared.residuals.Datum.TheVariants.{Number, Truth}
use Rattle.schedule_reader.specs.declared.moving.Opening.{Opening}
use Rattle.schedule_reader.specs.declared.moving.Opening.TheVariants.{Idling, Label as By, Number as Numbered}
use Rattle.schedule_grammar.specs.RawSchedules.{RawValue, RawSetting, RawMove, RawSchedule}

-- [ "-" ] numeral | "true" | "false"
pub data IsValue : List Lexeme → RawValue → Type 0 where
  a_number : (t : Lexeme) (n : ℕ) → sign_of t ≡ signs.Numeral n → IsValue (t ∷ []) (record { datum = Number (pos n); place = t.start; size = 1 })
  a_negative : (t u : Lexeme) (n : ℕ) → Is marks.Minus t → sign_of u ≡ signs.Numeral n → IsValue (t ∷ u ∷ []) (record { datum = Number (neg_ℤ (pos n)); place = t.start; size = 2 })
  is_true : (t : Lexeme) → Is marks.True t → IsValue (t ∷ []) (record { datum = Truth true; place = t.start; size = 1 })
  is_false : (t : Lexeme) → Is marks.False t → IsValue (t ∷ []) (record { datum = Truth false; place = t.start; size = 1 })

-- name "=" value ";"
pub data IsSetting : List Lexeme → RawSetting → Type 0 where
  sets : (t e z : Lexeme) (a : List Lexeme) (v : RawValue) → IsName t → Is marks.Equal e → IsValue a v → Is marks.Semicolon z
      → IsSetting (t ∷ e ∷ a ++ z ∷ []) (record { name = label_of t; value = v })

-- name | numeral
pub data IsTarget : Lexeme → Opening → Type 0 where
  by_label : (t : Lexeme) → IsName t → IsTarget t By
  by_number : (t : Lexeme) (n : ℕ) → sign_of t ≡ signs.Numeral n → IsTarget t (Numbered n)

-- "-" | ( name | numeral ) [ "." name ]
pub data IsMove : List Lexeme → RawMove → Type 0 where
  idles : (t : Lexeme) → Is marks.Minus t → IsMove (t ∷ []) (record { opening = Idling; first = label_of t; part = None })
  takes : (t : Lexeme) (o : Opening) → IsTarget t o → IsMove (t ∷ []) (record { opening = o; first = label_of t; part = None })
  takes_part : (t d n : Lexeme) (o : Opening) → IsTarget t o → Is marks.Dot d → IsName n → IsMove (t ∷ d ∷ n ∷ []) (record { opening = o; first = label_of t; part = Some (label_of n) })

-- move ";"
pub data IsEnded : List Lexeme → RawMove → Type 0 where
  ends_move : (a : List Lexeme) (z : Lexeme) (m : RawMove) → IsMove a m → Is marks.Semicolon z → IsEnded (a ++ z ∷ []) m

-- { setting } "::" { move ";" }
pub data IsRawSchedule : List Lexeme → RawSchedule → Type 0 where
  a_schedule : (a b : List Lexeme) (c : Lexeme) (ss : List RawSetting) (ms : List RawMove) → Many IsSetting a ss → Is marks.Colons c → Many IsEnded b ms
      → IsRawSchedule (a ++ c ∷ b) (record { settings = ss; colons = c.start; moves = ms })
