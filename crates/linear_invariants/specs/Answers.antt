-- What `find` answers: the value that there is, or that a number is too large; want of memory is always allowed.
use Rattle.std.specs.Prelude.{◌≡◌, Option, Some, None, Result, Ok, Err}
use Rattle.st_linear.specs.declared.faults.LinFault.{LinFault}
use Rattle.st_linear.specs.declared.faults.LinFault.TheVariants as lin
use Rattle.linear_invariants.specs.declared.fault.FindFault.{FindFault}
use Rattle.linear_invariants.specs.declared.fault.FindFault.TheVariants.{Wide, Memory}

abbrev pub IsFault : LinFault → FindFault → Type 0
IsFault lin.TooLarge fault = fault ≡ Wide
IsFault lin.Memory fault = fault ≡ Memory

abbrev pub FailsToFind : {B : Type 0} → FindFault → Option B → Type 0
FailsToFind Wide o = o ≡ None
FailsToFind Memory o = Unit {0}

abbrev pub Finds : {A B : Type 0} → (A → B) → Result A FindFault → Option B → Type 0
Finds view (Ok x) o = o ≡ Some (view x)
Finds view (Err fault) o = FailsToFind fault o
