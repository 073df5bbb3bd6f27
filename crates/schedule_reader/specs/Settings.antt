-- Settings: each gives a variable its value, which it has once.
use Rattle.std.specs.Prelude.{ℕ, Bool, true, false, List, slice_get, slice_set, if◌then◌else◌, Option, Some, None, Result, Ok, Err}
use Rattle.st_reading.specs.declared.mark.Mark.TheVariants as marks
use Rattle.st_reading.specs.Reading.{◌>>=◌, Stop, other, Label, expected, gives, then_reads}
use Rattle.st_reading.specs.Rule as rules
use Rattle.st_reading.specs.Breaches.{Breach, broke, Reader, Gives}
use Rattle.st_program.specs.Names.{Names}
use Rattle.st_program.specs.declared.residuals.Datum.{Datum}
use Rattle.expression_typer.specs.Naming.{names_of}
use Rattle.schedule_reader.specs.declared.fault.ScheduleFault.{ScheduleFault}
use Rattle.schedule_reader.specs.Faults.{see}
use Rattle.schedule_reader.specs.Values.{typed_of}

-- what is set so far: a value for each variable that has one
abbrev pub Settings : Type 0
Settings = List (Option Datum)

abbrev pub is_given : Option (Option Datum) → Bool
is_given None = false
is_given (Some None) = false
is_given (Some (Some d)) = true

abbrev pub is_set : Settings → ℕ → Bool
is_set store v = is_given (slice_get store v)

-- the variable, and whether it is boolean, unless it has a value
abbrev pub unset_variable : Settings → ℕ → Option (ℕ × Bool) → Result (ℕ × Bool) (Stop Breach)
unset_variable store place None = Err (other (broke rules.Unknown place))
unset_variable store place (Some v) = if is_set store v.0 then Err (other (broke rules.Twice place)) else Ok v

abbrev pub unset_in : Names → Settings → Label → Result (ℕ × Bool) (Stop Breach)
unset_in names store l = unset_variable store l.place ((names_of names).variable l.text)

-- behind the name that it begins with: "=" value ";"
unfoldable pub setting_of : Names → Label → Settings → Reader Settings
setting_of names l store s =
    unset_in names store l >>= λ v. then_reads (expected marks.Equal) (λ m. then_reads (typed_of v.1) (λ d. then_reads (expected marks.Semicolon) (λ z. gives (slice_set store v.0 (Some d))))) s

-- what the code chose
abbrev pub Chosen : Result (ℕ × Bool) ScheduleFault → Result (ℕ × Bool) (Stop Breach) → Type 0
Chosen = Gives see (λ v. v)
