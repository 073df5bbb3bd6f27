-- The paths through a group, by the choices that make them, and in how many ways branches can be chosen.
use Rattle.std.specs.Prelude.{◌≡◌, ◌↔◌, ℕ, ◌+◌, ◌*◌, ◌<◌, true, false, List, [], ◌∷◌, ◌++◌, Err}
use Rattle.st_form.specs.Formula.{Formula}
use Rattle.st_program.specs.Tree.{Term, Piece, Pieces, piece_skip, piece_assign, piece_await, piece_if, no_piece, piece}
use Rattle.st_program.specs.Groups.{Link, tested, given, paths_along}
use Rattle.st_program.specs.Member.{Member}
use Rattle.st_tokens.specs.declared.limit.LimitKind.TheVariants as limits
use Rattle.expression_typer.specs.declared.fault.TypeFault.TheVariants as faults
use Rattle.spl_typer.specs.Groups.{grouped}

mutual
  -- a path through a statement: at a conditional it takes one of the branches, whose test has the value that leads there
  pub data IsPath : Piece → List Link → Type 0 where
    skips : IsPath piece_skip []
    assigns : (xs : List (ℕ × Term)) → IsPath (piece_assign xs) (given xs ∷ [])
    awaits : (t : Formula) → IsPath (piece_await t) (tested t true ∷ [])
    takes_then : (t : Formula) (y n : Pieces) (path : List Link) → IsPathAlong y path → IsPath (piece_if t y n) (tested t true ∷ path)
    takes_else : (t : Formula) (y n : Pieces) (path : List Link) → IsPathAlong n path → IsPath (piece_if t y n) (tested t false ∷ path)

  -- a path through statements: one through each, in their order
  pub data IsPathAlong : Pieces → List Link → Type 0 where
    at_end : IsPathAlong no_piece []
    goes_on : (x : Piece) (xs : Pieces) (a b : List Link) → IsPath x a → IsPathAlong xs b → IsPathAlong (piece x xs) (a ++ b)

-- in how many ways the branches can be chosen: the sum over a conditional's branches, and the product over statements
abbrev mutual
  pub ways : Piece → ℕ
  ways piece_skip = 1
  ways (piece_assign xs) = 1
  ways (piece_await t) = 1
  ways (piece_if t y n) = ways_along y + ways_along n

  pub ways_along : Pieces → ℕ
  ways_along no_piece = 1
  ways_along (piece x xs) = ways x * ways_along xs

abbrev pub PathsAreChoices : Type 0
PathsAreChoices = (xs : Pieces) (path : List Link) → Member path (paths_along xs) ↔ IsPathAlong xs path

-- `weight` is that of the groups before
abbrev pub PathsRefuse : Type 0
PathsRefuse = (place : ℕ) (xs : Pieces) (weight : ℕ) → (grouped place xs weight ≡ Err (faults.Limit limits.Paths place)) ↔ (64 < ways_along xs)
