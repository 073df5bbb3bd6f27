-- What is remembered of trees that were compared: of a tree that the search made, by its number, the tree of the table that it is.
use Rattle.std.specs.Prelude.{◌≡◌, ℕ, ◌<◌, ◌≤◌, List, slice_index_or, Option, Some, None}
use Rattle.st_certificate.specs.Tree.{Tree}
use Rattle.tree_table.specs.Table.{tree}
use Rattle.table_check.specs.declared.memo.Same.{Same}

-- nothing is of a turn behind this one, and what is of this one is so
abbrev pub AreSame : ℕ → List Tree → List Tree → List (Option Same) → Type 0
AreSame turn us ts known = (a : ℕ) (s : Same) → slice_index_or known a None ≡ Some s → (s.turn ≤ turn) × (s.turn ≡ turn → tree us a ≡ tree ts s.number)

-- all that is remembered is of turns before this one
abbrev pub AreEarlier : ℕ → List (Option Same) → Type 0
AreEarlier turn known = (a : ℕ) (s : Same) → slice_index_or known a None ≡ Some s → s.turn < turn
