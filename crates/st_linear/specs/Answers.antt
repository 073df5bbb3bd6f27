-- One clause for "the value, or refused exactly where there is none": want of memory is the one answer that is always allowed.
use Rattle.std.specs.Prelude.{◌≡◌, Option, Some, None, Result, Ok, Err}
use Rattle.st_linear.specs.declared.faults.LinFault.{LinFault}
use Rattle.st_linear.specs.declared.faults.LinFault.TheVariants.{TooLarge, Memory}

-- when a fault may be answered: want of memory always
abbrev pub Fails : {B : Type 0} → LinFault → Option B → Type 0
Fails TooLarge o = o ≡ None
Fails Memory o = Unit {0}

-- an answer, seen by view: the value that there is, or that it is too large, unless memory ran out
abbrev pub Gives : {A B : Type 0} → (A → B) → Result A LinFault → Option B → Type 0
Gives view (Ok x) o = o ≡ Some (view x)
Gives view (Err fault) o = Fails fault o
