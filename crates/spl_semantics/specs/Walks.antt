-- The walk through a group from a store.
--
-- The store chooses the branch at each conditional, and a false `await` ends the walk. Where the walk goes through, its path
-- has a number among all paths, counted from 0, and leaves a store.
use Rattle.std.specs.Prelude.{ℕ, ◌+◌, ◌*◌, Bool, false, ◌||◌, if◌then◌else◌, length, Option, Some, None, option_and_then}
use Rattle.std.specs.Option.{option_map}
use Rattle.st_program.specs.Tree.{Piece, Pieces, piece_skip, piece_assign, piece_await, piece_if, no_piece, piece}
use Rattle.st_program.specs.Groups.{paths_along}
use Rattle.spl_semantics.specs.Stores.{Store, holds, assigned}
use Rattle.spl_semantics.specs.Limits.{wide_formula, wide_targets}

abbrev pub Walk : Type 0
Walk = Option (ℕ × Store)

-- the walk of further statements, which have n paths, behind one whose path has the number i
abbrev pub behind_path : ℕ → ℕ → Walk → Walk
behind_path i n None = None
behind_path i n (Some w) = Some (i * n + w.0, w.1)

abbrev mutual
  pub walk : Piece → Store → Walk
  walk piece_skip s = Some (0, s)
  walk (piece_assign xs) s = Some (0, assigned xs s)
  walk (piece_await t) s = if holds t s then Some (0, s) else None
  walk (piece_if t y n) s = if holds t s then walk_along y s else option_map (λ w. (length (paths_along y) + w.0, w.1)) (walk_along n s)

  pub walk_along : Pieces → Store → Walk
  walk_along no_piece s = Some (0, s)
  walk_along (piece x xs) s = option_and_then (λ w. behind_path w.0 (length (paths_along xs)) (walk_along xs w.1)) (walk x s)

-- what holds behind the walk, where it goes through
abbrev pub through : Walk → (Store → Bool) → Bool
through None f = false
through (Some w) f = f w.1

-- what is met on the walk is too large
abbrev mutual
  pub wide_walk : Piece → Store → Bool
  wide_walk piece_skip s = false
  wide_walk (piece_assign xs) s = wide_targets xs s
  wide_walk (piece_await t) s = wide_formula t s
  wide_walk (piece_if t y n) s = wide_formula t s || (if holds t s then wide_walk_along y s else wide_walk_along n s)

  pub wide_walk_along : Pieces → Store → Bool
  wide_walk_along no_piece s = false
  wide_walk_along (piece x xs) s = wide_walk x s || through (walk x s) (λ t. wide_walk_along xs t)
