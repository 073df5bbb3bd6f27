-- When a condition may be appended to a list: the limits on their number, on the atoms of one, and on the weight of all.
use Rattle.std.specs.Prelude.{◌≡◌, ℕ, ◌+◌, ◌^◌, nat_le, nat_lt, true, false, if◌then◌else◌, List, [], ◌∷◌, ◌++◌, length, map, take, Option, Some, None, Result, Ok, Err}
use Rattle.st_form.specs.Formula.{weight}
use Rattle.st_form.specs.Condition.{Implication}
use Rattle.vc_generator.specs.Building.{Draft}
use Rattle.vc_generator.specs.declared.faults.VcFault.{VcFault}
use Rattle.vc_generator.specs.declared.faults.VcFault.TheVariants as faults

abbrev pub weight_in : Implication → ℕ
weight_in c = weight c.given + weight c.shown

abbrev pub weights : List Implication → ℕ
weights [] = 0
weights (c ∷ cs) = weight_in c + weights cs

-- why a condition isn't appended: the list is full, the condition too wide, or the list would be too heavy
abbrev pub refusal : List Implication → Draft → Option VcFault
refusal old d =
    if nat_le 20000 (length old) then Some faults.TooMany
    else (if nat_lt 2048 d.wide then Some faults.TooWide
    else (if nat_lt (2 ^ 24) (weights old + weight_in d.condition) then Some faults.TooHeavy
    else None))

-- want of memory is free
abbrev pub Refuses : VcFault → Option VcFault → Type 0
Refuses faults.Memory reason = Unit {0}
Refuses faults.TooMany reason = reason ≡ Some faults.TooMany
Refuses faults.TooWide reason = reason ≡ Some faults.TooWide
Refuses faults.TooHeavy reason = reason ≡ Some faults.TooHeavy

-- the condition is appended exactly where it may be, and after a refusal the list is as before
abbrev pub Appends : Result (Unit {0}) VcFault → List Implication → List Implication → Draft → Type 0
Appends (Ok x) old new d = (refusal old d ≡ None) × (new ≡ old ++ d.condition ∷ [])
Appends (Err fault) old new d = Refuses fault (refusal old d) × (new ≡ old)

abbrev pub else_refusal : Option VcFault → Option VcFault → Option VcFault
else_refusal None rest = rest
else_refusal (Some fault) rest = Some fault

-- why one of several conditions isn't appended, each behind those before it
abbrev pub refusals : List Implication → List Draft → Option VcFault
refusals old [] = None
refusals old (d ∷ ds) = else_refusal (refusal old d) (refusals (old ++ d.condition ∷ []) ds)

-- all are appended in their order exactly where all may be, and after a refusal the list is as before
abbrev pub AppendsAll : Result (Unit {0}) VcFault → List Implication → List Implication → List Draft → Type 0
AppendsAll (Ok x) old new ds = (refusals old ds ≡ None) × (new ≡ old ++ map (λ d. d.condition) ds)
AppendsAll (Err fault) old new ds = Refuses fault (refusals old ds) × (new ≡ old)

-- what asking for room for a further condition of so many atoms answers
abbrev pub HasRoom : Result (Unit {0}) VcFault → List Implication → ℕ → Type 0
HasRoom (Ok x) old wide = (nat_le 20000 (length old) ≡ false) × (nat_lt 2048 wide ≡ false)
HasRoom (Err faults.TooMany) old wide = nat_le 20000 (length old) ≡ true
HasRoom (Err faults.TooWide) old wide = (nat_le 20000 (length old) ≡ false) × (nat_lt 2048 wide ≡ true)
HasRoom (Err faults.TooHeavy) old wide = ⊥
HasRoom (Err faults.Memory) old wide = ⊥

-- what appending a condition answers, but for its atoms and the room for it
abbrev pub Pushes : Result (Unit {0}) VcFault → List Implication → List Implication → Implication → Type 0
Pushes (Ok x) old new c = (nat_lt (2 ^ 24) (weights old + weight_in c) ≡ false) × (new ≡ old ++ c ∷ [])
Pushes (Err faults.TooMany) old new c = ⊥
Pushes (Err faults.TooWide) old new c = ⊥
Pushes (Err faults.TooHeavy) old new c = (nat_lt (2 ^ 24) (weights old + weight_in c) ≡ true) × (new ≡ old)
Pushes (Err faults.Memory) old new c = new ≡ old

-- a list begins with another
abbrev pub Begins : List Implication → List Implication → Type 0
Begins old new = take (length old) new ≡ old

-- the same while several are appended: after a refusal the list begins with what it was
abbrev pub Grows : Result (Unit {0}) VcFault → List Implication → List Implication → List Draft → Type 0
Grows (Ok x) old new ds = (refusals old ds ≡ None) × (new ≡ old ++ map (λ d. d.condition) ds)
Grows (Err fault) old new ds = Refuses fault (refusals old ds) × Begins old new
