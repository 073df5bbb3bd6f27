-- Linear forms with numbers as small as the texts write them.
use Rattle.std.specs.Prelude.{ℕ, Bool, true, false, if◌then◌else◌, List, [], ◌∷◌, ℤ, negsuc, Option, Some, None, Result, Ok, Err}
use Rattle.st_linear.specs.Linear.{Linear, fitting, sum_of, scaled, number}
use Rattle.st_linear.specs.Simple.{negated}
use Rattle.st_program.specs.Groups.{is_written}
use Rattle.expression_typer.specs.declared.fault.TypeFault.{TypeFault}
use Rattle.expression_typer.specs.declared.fault.TypeFault.TheVariants as faults
use Rattle.expression_typer.specs.Answers.{◌>>=◌}

-- each number of the form is at most 2^30 in size
unfoldable pub is_writable : Linear → Bool
is_writable f = is_written f

-- a form with written numbers, else the operator's fault
abbrev pub limited : ℕ → Linear → Result Linear TypeFault
limited at f = if is_writable f then Ok f else Err (faults.TooLarge at)

abbrev pub fitted_to : ℕ → Option Linear → Result Linear TypeFault
fitted_to at None = Err (faults.TooLarge at)
fitted_to at (Some f) = Ok f

-- a form whose numbers are below 2^100, as those of a comparison always are
abbrev pub fitted : ℕ → Linear → Result Linear TypeFault
fitted at f = fitted_to at (fitting f)

abbrev pub difference : ℕ → Linear → Linear → Result Linear TypeFault
difference at f g = fitted at (sum_of f (negated g))

-- one less than the difference
abbrev pub lowered : ℕ → Linear → Linear → Result Linear TypeFault
lowered at f g = difference at f g >>= λ h. fitted at (number (negsuc 0)) >>= λ one. fitted at (sum_of h one)

abbrev pub is_constant : List (ℕ × ℤ) → Bool
is_constant [] = true
is_constant (e ∷ es) = false

-- a product has a form where one side is constant
abbrev pub product : ℕ → Linear → Linear → Result Linear TypeFault
product at f g =
    if is_constant f.entries then limited at (scaled f.constant g)
    else (if is_constant g.entries then limited at (scaled g.constant f)
    else Err (faults.NonLinear at))
