-- What a call answers: the value, or a refusal exactly where the definition refuses so. Want of memory is free.
use Rattle.std.specs.Prelude.{◌≡◌, ℕ, Result, Ok, Err}
use Rattle.shared_certificates.specs.declared.nodes.Table.{Table}
use Rattle.shared_certificates.specs.declared.refusals.Fault.{Fault}
use Rattle.shared_certificates.specs.Nodes.{Shared, table_view}
use Rattle.shared_certificates.specs.declared.refusals.Refusal.{Refusal}
use Rattle.shared_certificates.specs.declared.refusals.Refusal.TheVariants.{Malformed, Limit, Memory}

abbrev pub Refuses : {B : Type 0} → Refusal → Result B Refusal → Type 0
Refuses Malformed r = r ≡ Err Malformed
Refuses Limit r = r ≡ Err Limit
Refuses Memory r = Unit {0}

-- an answer, seen by view
abbrev pub Gives : {A B : Type 0} → (A → B) → Result A Refusal → Result B Refusal → Type 0
Gives view (Ok x) r = r ≡ Ok (view x)
Gives view (Err e) r = Refuses e r

-- what a call that changes something answers, and leaves
abbrev pub Leaves : {B : Type 0} → B → Result (Unit {0}) Refusal → Result B Refusal → Type 0
Leaves left (Ok x) r = r ≡ Ok left
Leaves left (Err e) r = Refuses e r

-- the same with the place of the line that is refused
abbrev pub RefusesAt : Refusal → ℕ → Result Shared (Refusal × ℕ) → Type 0
RefusesAt Malformed place r = r ≡ Err (Malformed, place)
RefusesAt Limit place r = r ≡ Err (Limit, place)
RefusesAt Memory place r = Unit {0}

-- what is told of a whole text
abbrev pub Told : Result Table Fault → Result Shared (Refusal × ℕ) → Type 0
Told (Ok t) r = r ≡ Ok (table_view t)
Told (Err f) r = RefusesAt f.refusal f.place r
