-- Values: whole numbers and truth values.
use Rattle.std.specs.Prelude.{◌≤◌, ◌^◌, Bool, true, false, not, cond, pos, neg_ℤ, unsigned_abs, ⊤, Option, Some, Ok, Err}
use Rattle.std.specs.Option.{option_map}
use Rattle.st_tokens.specs.Stream.{behind}
use Rattle.st_reading.specs.declared.mark.Mark.TheVariants as marks
use Rattle.st_reading.specs.declared.sign.Sign.{Sign}
use Rattle.st_reading.specs.Sign.{is}
use Rattle.st_reading.specs.Reading.{ahead, place_of, refusal, gives, then_reads, on_operator}
use Rattle.st_reading.specs.Rule as rules
use Rattle.st_reading.specs.Breaches.{broke, Reader, unless, numeral_in, numeral_of}
use Rattle.st_program.specs.declared.residuals.Datum.{Datum}
use Rattle.st_program.specs.declared.residuals.Datum.TheVariants.{Number, Truth}

-- the value that a token is by itself
abbrev pub value_in : Sign → Option Datum
value_in g =
    cond (is g marks.True) (Some (Truth true)) (cond (is g marks.False) (Some (Truth false)) (option_map (λ n. Number (pos n)) (numeral_in g)))

-- [ "-" ] numeral | "true" | "false"
unfoldable pub value_of : Reader Datum
value_of s =
    cond (is (ahead s) marks.Minus)
    (then_reads numeral_of (λ n. gives (Number (neg_ℤ (pos n.0)))) (behind s))
    (on_operator (value_in (ahead s)) (Err (refusal s)) (λ d. Ok (d, behind s)))

-- the value is one of a boolean variable, or of an integer variable
abbrev pub has_type : Bool → Datum → Bool
has_type truth (Number z) = not truth
has_type truth (Truth b) = truth

-- a value of the type
unfoldable pub typed_of : Bool → Reader Datum
typed_of truth s = then_reads value_of (λ d. unless (not (has_type truth d)) (broke rules.WrongType (place_of s)) d) s

-- the numbers of texts have at most this size
abbrev pub IsWritten : Datum → Type 0
IsWritten (Number z) = unsigned_abs z ≤ 2 ^ 30
IsWritten (Truth b) = ⊤
