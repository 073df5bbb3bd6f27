-- What is told of a text: the place of its first fault.
use Rattle.std.specs.Prelude.{◌≡◌, ℕ, List, [], ◌∷◌, Option, Some, None}
use Rattle.std.specs.Option.{option_map}
use Rattle.proof_reports.specs.declared.proofs.Spot.{Spot}
use Rattle.proof_reports.specs.declared.faults.Fault.{Fault}
use Rattle.fault_reports.specs.declared.refusal.Refusal.{Refusal}
use Rattle.fault_reports.specs.declared.texts.Reader.{Reader}
use Rattle.fault_reports.specs.declared.texts.Reader.TheVariants.{Program, Proof, Schedule}
use Rattle.fault_reports.specs.Refused.{program_refused, proof_refused, schedule_refused}

abbrev pub place_of : Refusal → ℕ
place_of r = r.place

-- where a reader refuses a text
abbrev pub refused_in : Reader → List ℕ → Option ℕ
refused_in Program text = program_refused text
refused_in (Proof over) text = proof_refused over.source.now text
refused_in (Schedule over) text = schedule_refused over.source.now text

abbrev pub first_spot : List Spot → Option ℕ
first_spot [] = None
first_spot (s ∷ ss) = Some s.offset

-- the place of the first fault that is told, which has one
abbrev pub first_told : List Fault → Option (Option ℕ)
first_told [] = None
first_told (f ∷ fs) = Some (first_spot f.spots.items)

-- The first fault stands where the text is refused, and where it isn't there is none.
abbrev pub IsFirst : Option ℕ → List Fault → Type 0
IsFirst refused told = first_told told ≡ option_map Some refused
