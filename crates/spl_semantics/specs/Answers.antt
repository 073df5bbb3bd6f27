-- One clause for a value and for why there is none: it is given exactly where no number on the way to it is too large, and
-- want of memory is the one answer that is always allowed.
use Rattle.std.specs.Prelude.{◌≡◌, Bool, true, false, Result, Ok, Err}
use Rattle.spl_semantics.specs.declared.faults.MoveFault.{MoveFault}
use Rattle.spl_semantics.specs.declared.faults.MoveFault.TheVariants.{ValueLimit, Memory}

-- when a fault may be answered
abbrev pub Fails : MoveFault → Bool → Type 0
Fails ValueLimit wide = wide ≡ true
Fails Memory wide = Unit {0}

-- an answer, seen by view, where it is known whether a number on the way is too large
abbrev pub Answers : {A B : Type 0} → (A → B) → Result A MoveFault → Bool → B → Type 0
Answers view (Ok x) wide value = (wide ≡ false) × (view x ≡ value)
Answers view (Err fault) wide value = Fails fault wide
