-- What statements may change.
use Rattle.std.specs.Prelude.{ℕ, false, List, [], ◌∷◌, ⊤}
use Rattle.st_form.specs.declared.variables.Variable.{Variable}
use Rattle.st_program.specs.Tree.{Term, Piece, Pieces, piece_skip, piece_assign, piece_await, piece_if, no_piece, piece, Action, skip, assign, request, release, group}
use Rattle.st_program.specs.Types.{is_truth, MayChange, IsNoTarget}

-- each variable may be changed and has the type of what it gets, and none gets two values at once
abbrev pub MayChangeAll : List Variable → List (ℕ × Term) → Type 0
MayChangeAll vs [] = ⊤
MayChangeAll vs (x ∷ xs) = MayChange vs x.0 (is_truth x.1) × IsNoTarget x.0 xs × MayChangeAll vs xs

-- that is so of each assignment in a group
abbrev mutual
  pub PieceIsAllowed : List Variable → Piece → Type 0
  PieceIsAllowed vs piece_skip = ⊤
  PieceIsAllowed vs (piece_assign xs) = MayChangeAll vs xs
  PieceIsAllowed vs (piece_await t) = ⊤
  PieceIsAllowed vs (piece_if t y n) = PiecesAreAllowed vs y × PiecesAreAllowed vs n

  pub PiecesAreAllowed : List Variable → Pieces → Type 0
  PiecesAreAllowed vs no_piece = ⊤
  PiecesAreAllowed vs (piece x xs) = PieceIsAllowed vs x × PiecesAreAllowed vs xs

-- and of what a statement itself does, what stands in it left out: a request and a release are of an integer
abbrev pub ActionIsAllowed : List Variable → Action → Type 0
ActionIsAllowed vs (assign xs) = MayChangeAll vs xs
ActionIsAllowed vs (request v) = MayChange vs v false
ActionIsAllowed vs (release v) = MayChange vs v false
ActionIsAllowed vs (group xs) = PiecesAreAllowed vs xs
ActionIsAllowed vs skip = ⊤
ActionIsAllowed vs _ = ⊤
