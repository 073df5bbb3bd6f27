-- The texts of the workload with n processes: a program in which one semaphore lets one of them at a time into its critical
-- section, and a proof that it does, and that the first process comes in within 2n - 1 rounds.
use Rattle.std.specs.Prelude.{ℕ, ◌-◌, ◌*◌, List, ◌++◌, codes}
use Rattle.std.specs.Fmt.{decimal}
use Rattle.step_workload.specs.Parts.{filled, each_from, filled_unless}

abbrev pub process : List ℕ
process = codes "P# :: [ p#_0: loop forever do [ p#_1: noncritical; p#_2: request y; p#_3: critical; p#_4: release y ] ]"

abbrev pub program_text : ℕ → List ℕ
program_text n =
    codes "local y: integer where y = 1; " ++ filled 1 process ++ each_from (λ i. filled i (codes " || " ++ process)) 2 (n - 1) ++ codes "\n"

-- the process is outside its critical section
abbrev pub outside : List ℕ
outside = codes " /\\ ~at p#_3 /\\ ~at p#_4"

-- process i alone is inside
abbrev pub alone_inside : ℕ → ℕ → List ℕ
alone_inside n i = filled i (codes " \\/ (y = 0 /\\ (at p#_3 \\/ at p#_4)") ++ each_from (filled_unless i outside) 1 n ++ codes ")"

abbrev pub exclusion : ℕ → List ℕ
exclusion n = codes "invariant mux: (y = 1" ++ each_from (λ i. filled i outside) 1 n ++ codes ")" ++ each_from (alone_inside n) 1 n ++ codes ";"

-- while process j is inside, the first one waits for it
abbrev pub waits : List ℕ
waits = codes "at p1_2 /\\ y = 0 /\\ at p#_3 helper p#_3; at p1_2 /\\ y = 0 /\\ at p#_4 helper p#_4; "

abbrev pub access : ℕ → List ℕ
access n =
    codes " response enter: at p1_2 leads at p1_3 within " ++ decimal (2 * n - 1) ++ codes " by fair p1_2 [ " ++ each_from (λ j. filled j waits) 2 (n - 1)
    ++ codes "at p1_2 /\\ y >= 1 ] using mux;\n"

abbrev pub proof_text : ℕ → List ℕ
proof_text n = exclusion n ++ access n
