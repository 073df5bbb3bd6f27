-- Faults of diagrams and of formulas behind 64 others, as faults of scripts.
use Rattle.std.proofs.Common.{◌≡◌, Option, Some, None, ℕ, ap}
use Rattle.std.specs.Option.{option_map}
use Rattle.st_reading.specs.Reading.{Stop, Read, IsStop}
use Rattle.st_reading.specs.Breaches.{Breach}
use Rattle.proof_script.specs.Faults.{drawing_stop, drawn, past, one_too_many}

drawing_stops : {A : Type 0} (seen : Option (Stop Breach)) (r : Read Breach A) → IsStop seen r → IsStop (option_map drawing_stop seen) (drawn r)
drawing_stops None r h = tt
drawing_stops (Some f) r h = ap drawn h

pub drawing_fails : {A : Type 0} (seen now : Option (Stop Breach)) (r : Read Breach A) → now ≡ option_map drawing_stop seen → IsStop seen r → IsStop now (drawn r)
drawing_fails seen now r is h = rw is (drawing_stops seen r h)

past_stops : {A : Type 0} (place : ℕ) (seen : Option (Stop Breach)) (r : Read Breach A) → IsStop seen r → IsStop (option_map (past place) seen) (one_too_many place r)
past_stops place None r h = tt
past_stops place (Some f) r h = ap (one_too_many place) h

pub past_fails : {A : Type 0} (place : ℕ) (seen now : Option (Stop Breach)) (r : Read Breach A) → now ≡ option_map (past place) seen → IsStop seen r → IsStop now (one_too_many place r)
past_fails place seen now r is h = rw is (past_stops place seen r h)
