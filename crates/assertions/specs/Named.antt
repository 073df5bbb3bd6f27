-- An expression breaks only rules that FormFault has, and is never too wide, too heavy or out of memory.
use Rattle.std.specs.Prelude.{◌≡◌, Err}
use Rattle.st_tokens.specs.Stream.{Stream}
use Rattle.st_reading.specs.Reading.{Stop}
use Rattle.st_reading.specs.Breaches.{Breach}
use Rattle.expression_typer.specs.Scope.{Names}
use Rattle.assertions.specs.Faults.{IsOfForms}
use Rattle.assertions.specs.Reading.{form_of, linear_of}

abbrev pub FormFaultsAreNamed : Type 0
FormFaultsAreNamed = (names : Names) (s : Stream) (f : Stop Breach) → form_of names s ≡ Err f → IsOfForms f

abbrev pub LinearFaultsAreNamed : Type 0
LinearFaultsAreNamed = (names : Names) (s : Stream) (f : Stop Breach) → linear_of names s ≡ Err f → IsOfForms f
