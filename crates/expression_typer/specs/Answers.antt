-- Answers of the typing rules, and what a call returned beside them.
use Rattle.std.specs.Prelude.{◌≡◌, Result, Ok, Err}
use Rattle.expression_typer.specs.declared.fault.TypeFault.{TypeFault}
use Rattle.expression_typer.specs.declared.fault.TypeFault.TheVariants as faults

infixl 10 ◌>>=◌
abbrev pub ◌>>=◌ : {A B : Type 0} → Result A TypeFault → (A → Result B TypeFault) → Result B TypeFault
(Ok x) >>= f = f x
(Err e) >>= f = Err e

-- want of memory is free; any other fault is that of the rules
abbrev pub Fails : {Y : Type 0} → TypeFault → Result Y TypeFault → Type 0
Fails faults.Memory rules = Unit {0}
Fails fault rules = rules ≡ Err fault

-- what a call returned, seen by view, is what the rules give
abbrev pub Gives : {X Y : Type 0} → (X → Y) → Result X TypeFault → Result Y TypeFault → Type 0
Gives view (Ok x) rules = rules ≡ Ok (view x)
Gives view (Err fault) rules = Fails fault rules
