-- What searches along the text find.
use Rattle.std.specs.Prelude.{ℕ, zero, suc, nat_eq, if◌then◌else◌, List, [], ◌∷◌, Result, Ok, Err}
use Rattle.std.specs.Borrow.{Bor}
use Rattle.st_program.specs.declared.trees.Stmt as GStmt
use Rattle.st_program.specs.Tree.{Statements, occurrence}
use Rattle.st_program.specs.Plain.{plain_stmts}
use Rattle.st_program.specs.Spots.{Body, Spot}

-- the number of components that begin before the first statement with an occurrence, or how many begin in all where there
-- is no such statement
abbrev pub begun_before : List Spot → ℕ → ℕ → Result ℕ ℕ
begun_before [] o all = Err all
begun_before (x ∷ xs) o all = if nat_eq (occurrence x.stmt) o then Ok x.before else begun_before xs o all

-- the statements of the component at a place of the list, or the number less the length of the list
abbrev pub body_at : List Body → ℕ → Result Statements ℕ
body_at [] n = Err n
body_at (b ∷ bs) zero = Ok b.0
body_at (b ∷ bs) (suc n) = body_at bs n

abbrev pub plain_body : Result (Bor (List GStmt.Stmt)) ℕ → Result Statements ℕ
plain_body (Ok ss) = Ok (plain_stmts ss.now)
plain_body (Err n) = Err n
