-- A workload that words ask for is one of the four.
use Rattle.std.proofs.Common.{List, [], ◌∷◌, ◌==◌, Bool, true, false, arith, codes, length, subst}
use Rattle.std.specs.Prelude.{Option, Some, None, if◌then◌else◌}
use Rattle.std.specs.Str.{bytes_eq}
use Rattle.clap.specs.Words.{Text, all_of, fault_of, first_of, matches_of}
use Rattle.step_words.specs.Definition.{step_app}
use Rattle.step_words.specs.Request.{IsStated, PlainRequest, RequestsAreStated, request_for, request_given, request_of, workload}

-- each request that may be made is stated
abbrev AreStated : Option PlainRequest → Type 0
AreStated None = Unit {0}
AreStated (Some request) = IsStated request

either : (b : Bool) (x y : Option PlainRequest) → AreStated x → AreStated y → AreStated (if b then x else y)
either true x y hx hy = hx
either false x y hx hy = hy

numbered : (a b c d : Bool) → AreStated (workload (if a then Some 1 else (if b then Some 2 else (if c then Some 3 else (if d then Some 4 else None)))))
numbered true b c d = (omega arith, omega arith)
numbered false true c d = (omega arith, omega arith)
numbered false false true d = (omega arith, omega arith)
numbered false false false true = (omega arith, omega arith)
numbered false false false false = tt

for_names : (command : Text) (names : List Text) → AreStated (request_for command names)
for_names command [] = tt
for_names command (p ∷ []) =
    either (bytes_eq command (codes "workload")) _ _ (numbered (bytes_eq p (codes "1")) (bytes_eq p (codes "2")) (bytes_eq p (codes "3")) (bytes_eq p (codes "4")))
    (either (bytes_eq command (codes "invariants")) _ _ tt tt)
for_names command (p ∷ q ∷ []) = either (bytes_eq command (codes "verify")) _ _ tt (either (bytes_eq command (codes "prove")) _ _ tt tt)
for_names command (p ∷ q ∷ c ∷ []) = either (bytes_eq command (codes "check")) _ _ tt (either (bytes_eq command (codes "trace")) _ _ tt tt)
for_names command (p ∷ q ∷ c ∷ d ∷ ds) = tt

given : (command : Option Text) (names : Option (List Text)) → AreStated (request_given command names)
given None names = tt
given (Some command) None = tt
given (Some command) (Some names) = for_names command names

at_words : (words : List Text) → AreStated (request_of words)
at_words words =
    either (length (fault_of step_app words) == 0) _ _ (given (first_of (codes "command") (matches_of step_app words)) (all_of (codes "names") (matches_of step_app words))) tt

pub stated : RequestsAreStated
stated words request is = subst AreStated is (at_words words)
