-- What uses variables by their types changes only what it may.
use Rattle.std.proofs.Common.{ℕ, List, [], ◌∷◌}
use Rattle.st_form.specs.declared.variables.Variable.{Variable}
use Rattle.st_program.specs.Tree.{Term, Piece, Pieces, piece_skip, piece_assign, piece_await, piece_if, no_piece, piece, Action, skip, critical, noncritical, assign, await, request, release, if_then, if_else, while_do, block, select, cooperate, group}
use Rattle.st_program.specs.Types.{TargetsFit, PieceFits, PiecesFit, ActionFits}
use Rattle.program_rules.specs.Changes.{MayChangeAll, PieceIsAllowed, PiecesAreAllowed, ActionIsAllowed}

module _ (vs : List Variable) where
  targets_allowed : (xs : List (ℕ × Term)) → TargetsFit vs xs → MayChangeAll vs xs
  targets_allowed [] h = tt
  targets_allowed (x ∷ xs) h = (h.0, h.2, targets_allowed xs h.3)

  mutual
    piece_allowed : (x : Piece) → PieceFits vs x → PieceIsAllowed vs x
    piece_allowed piece_skip h = tt
    piece_allowed (piece_assign xs) h = targets_allowed xs h
    piece_allowed (piece_await t) h = tt
    piece_allowed (piece_if t y n) h = (pieces_allowed y h.1, pieces_allowed n h.2)

    pieces_allowed : (xs : Pieces) → PiecesFit vs xs → PiecesAreAllowed vs xs
    pieces_allowed no_piece h = tt
    pieces_allowed (piece x xs) h = (piece_allowed x h.0, pieces_allowed xs h.1)

  pub what_fits_is_allowed : (a : Action) → ActionFits vs a → ActionIsAllowed vs a
  what_fits_is_allowed skip h = tt
  what_fits_is_allowed critical h = tt
  what_fits_is_allowed noncritical h = tt
  what_fits_is_allowed (assign xs) h = targets_allowed xs h
  what_fits_is_allowed (await t) h = tt
  what_fits_is_allowed (request v) h = h
  what_fits_is_allowed (release v) h = h
  what_fits_is_allowed (if_then t y) h = tt
  what_fits_is_allowed (if_else t y n) h = tt
  what_fits_is_allowed (while_do t b) h = tt
  what_fits_is_allowed (block ss) h = tt
  what_fits_is_allowed (select ss) h = tt
  what_fits_is_allowed (cooperate ps) h = tt
  what_fits_is_allowed (group xs) h = pieces_allowed xs h.0
