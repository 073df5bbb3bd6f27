-- What words ask for.
use Rattle.std.specs.Prelude.{ℕ, List, [], ◌∷◌, ◌≡◌, ◌≤◌, Option, Some, None, if◌then◌else◌, length, ◌==◌, codes}
use Rattle.std.specs.Str.{bytes_eq}
use Rattle.std.specs.Str.Parse.{IsNumeral, digits_value, without_leading_plus}
use Rattle.clap.specs.Words.{Text, all_of, fault_of, first_of, one_of, matches_of}
use Rattle.step_words.specs.Definition.{step_app}
use Rattle.step_words.specs.declared.request.Request.{Request}
use Rattle.step_words.specs.declared.request.Request.TheVariants.{Check, Verify, Prove, Workload, Trace, Invariants}

pub data PlainRequest : Type 0 where
  -- program, proof and certificates
  checks : Text → Text → Text → PlainRequest
  -- program and proof
  verifies : Text → Text → PlainRequest
  proves : Text → Text → PlainRequest
  -- the number of a workload
  makes : ℕ → PlainRequest
  -- program, proof and schedule
  traces : Text → Text → Text → PlainRequest
  -- the program whose invariants are wanted
  finds : Text → PlainRequest

abbrev pub plain_request : Request → PlainRequest
plain_request (Check p q c) = checks p.now q.now c.now
plain_request (Verify p q) = verifies p.now q.now
plain_request (Prove p q) = proves p.now q.now
plain_request (Workload n) = makes n
plain_request (Trace p q s) = traces p.now q.now s.now
plain_request (Invariants p) = finds p.now

-- a workload is named by its number, and there are four
abbrev pub workload_number : Text → Option ℕ
workload_number text =
    if bytes_eq text (codes "1") then Some 1 else (if bytes_eq text (codes "2") then Some 2 else
    (if bytes_eq text (codes "3") then Some 3 else (if bytes_eq text (codes "4") then Some 4 else None)))

abbrev pub workload : Option ℕ → Option PlainRequest
workload None = None
workload (Some n) = Some (makes n)

-- what a command asks for with these names, if it has as many
abbrev pub request_for : Text → List Text → Option PlainRequest
request_for command (p ∷ q ∷ c ∷ []) =
    if bytes_eq command (codes "check") then Some (checks p q c) else (if bytes_eq command (codes "trace") then Some (traces p q c) else None)
request_for command (p ∷ q ∷ []) =
    if bytes_eq command (codes "verify") then Some (verifies p q) else (if bytes_eq command (codes "prove") then Some (proves p q) else None)
request_for command (p ∷ []) =
    if bytes_eq command (codes "workload") then workload (workload_number p) else (if bytes_eq command (codes "invariants") then Some (finds p) else None)
request_for command names = None

abbrev pub request_given : Option Text → Option (List Text) → Option PlainRequest
request_given (Some command) (Some names) = request_for command names
request_given command names = None

-- what the words ask for, the program's name first: nothing exactly where clap refuses them, or where no request has this command with these names
abbrev pub request_of : List Text → Option PlainRequest
request_of words =
    if length (fault_of step_app words) == 0
    then request_given (first_of (codes "command") (matches_of step_app words)) (all_of (codes "names") (matches_of step_app words))
    else None

-- what stands for the number of workers, from 1 to 64
abbrev pub workers_of : List Text → Option Text
workers_of words = one_of (codes "workers") (matches_of step_app words)

-- there are as many workers as this text says, and one where there is none
abbrev pub AreWorkers : Option Text → ℕ → Type 0
AreWorkers None n = n ≡ 1
AreWorkers (Some text) n =
    IsNumeral 10 (without_leading_plus text) → 1 ≤ digits_value 10 (without_leading_plus text) → digits_value 10 (without_leading_plus text) ≤ 64
    → n ≡ digits_value 10 (without_leading_plus text)

-- a workload is one of the four
abbrev pub IsStated : PlainRequest → Type 0
IsStated (makes n) = (1 ≤ n) × (n ≤ 4)
IsStated request = Unit {0}

abbrev pub RequestsAreStated : Type 0
RequestsAreStated = (words : List Text) (request : PlainRequest) → request_of words ≡ Some request → IsStated request
