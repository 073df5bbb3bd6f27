-- Numerals and variables as forms.
use Rattle.std.proofs.Common.{◌≡◌, ℕ, true, false, List, refl, pos, Some}
use Rattle.st_linear.specs.Linear.{Linear, AreEntries}
use Rattle.st_linear.specs.Linear as linear
use Rattle.st_form.specs.declared.variables.Variable.{Variable}
use Rattle.st_program.specs.Groups.{is_written_number}
use Rattle.st_program.specs.Types.{type_of}
use Rattle.expression_typer.specs.Written.{is_writable, limited}
use Rattle.expression_typer.proofs.Holding.{Holds, if_ok}
use Rattle.expression_typer.proofs.Fits.{IsWord, of_number}

pub numeral_word : (vs : List Variable) (n : ℕ) → Holds (IsWord vs) (limited 0 (linear.number (pos n)))
numeral_word vs n = if_ok (IsWord vs) (is_writable (linear.number (pos n))) (linear.number (pos n)) _ (λ e. record { form = of_number vs (pos n); written = e })

variable_written : (v : ℕ) → is_writable (linear.variable v) ≡ true
unfolding is_writable is_written_number
variable_written v = refl

one_not_zero : pos 1 ≡ pos 0 → ⊥
one_not_zero e = cc

pub variable_word : (vs : List Variable) (v : ℕ) → type_of vs v ≡ Some false → IsWord vs (linear.variable v)
variable_word vs v h = record { form = record { rising = (tt, one_not_zero, tt); types = (h, tt) }; written = variable_written v }
