-- Which tokens of a block pass a certificate limit: for each token, in their order, whether it does. That a tree has 400 trees
-- round it, or 100,000 before it in its block, is told by its first word; that a leaf has 4,096 picks before it, by a row's number.
use Rattle.std.specs.Prelude.{ℕ, ◌+◌, Bool, false, ◌||◌, nat_le, if◌then◌else◌, List, [], ◌∷◌}
use Rattle.cert_text.specs.Grammar.{Int, Written, Rows, w_absurd, w_farkas, w_linear, w_node, w_cut, w_last, w_and, tree_count, none_left, is_long, is_long_entry}

-- the mark of a number with its sign; a sign passes no limit
abbrev pub int_marks : Bool → Int → List Bool → List Bool
int_marks over i k = if i.0 then false ∷ over ∷ k else over ∷ k

-- a row's number behind `count` others of its leaf
abbrev pub is_row_over : ℕ → ℕ → Bool
is_row_over count row = is_long (row + 1) || nat_le 4096 count

abbrev pub is_size_over : ℕ → Bool
is_size_over n = nat_le 1099511627776 n

abbrev pub pick_marks : ℕ → ℕ × ℕ → List Bool → List Bool
pick_marks count p k = is_row_over count p.0 ∷ false ∷ is_size_over p.1 ∷ k

abbrev pub picks_marks : ℕ → List (ℕ × ℕ) → List Bool → List Bool
picks_marks count [] k = k
picks_marks count (p ∷ ps) k = false ∷ pick_marks count p (picks_marks (count + 1) ps k)

abbrev pub line_marks : ℕ → ℕ × Int → List Bool → List Bool
line_marks count p k = is_row_over count p.0 ∷ false ∷ int_marks (is_size_over p.1.1) p.1 k

abbrev pub lines_marks : ℕ → List (ℕ × Int) → List Bool → List Bool
lines_marks count [] k = k
lines_marks count (p ∷ ps) k = false ∷ line_marks count p (lines_marks (count + 1) ps k)

abbrev pub term_marks : ℕ × Int → List Bool → List Bool
term_marks t k = int_marks (is_long_entry t.1.1) t.1 (false ∷ is_long (t.0 + 1) ∷ k)

abbrev pub more_marks : List (ℕ × Int) → List Bool → List Bool
more_marks [] k = k
more_marks (t ∷ ts) k = false ∷ term_marks t (more_marks ts k)

abbrev pub terms_marks : List (ℕ × Int) → List Bool → List Bool
terms_marks [] k = k
terms_marks (t ∷ ts) k = term_marks t (more_marks ts k)

-- a tree with `trees` before it in its block and `depth` round it
abbrev mutual
  pub tree_marks : ℕ → ℕ → Written → List Bool → List Bool
  tree_marks trees depth w_absurd k = none_left trees depth ∷ k
  tree_marks trees depth (w_farkas p ps) k = none_left trees depth ∷ false ∷ pick_marks 0 p (picks_marks 1 ps (false ∷ k))
  tree_marks trees depth (w_linear p ps) k = none_left trees depth ∷ false ∷ line_marks 0 p (lines_marks 1 ps (false ∷ k))
  tree_marks trees depth (w_node b n ws) k = none_left trees depth ∷ is_long (n + 1) ∷ false ∷ rows_marks (trees + 1) (depth + 1) ws (false ∷ k)
  tree_marks trees depth (w_cut ts c ws) k =
      none_left trees depth ∷ false ∷ terms_marks ts (false ∷ int_marks (is_long_entry c.1) c (false ∷ false ∷ rows_marks (trees + 1) (depth + 1) ws (false ∷ k)))

  pub rows_marks : ℕ → ℕ → Rows → List Bool → List Bool
  rows_marks trees depth (w_last w) k = tree_marks trees depth w k
  rows_marks trees depth (w_and w ws) k = tree_marks trees depth w (rows_marks (trees + tree_count w) depth ws k)

-- of a whole block: neither `cert` nor its number nor its `;` passes a limit
abbrev pub block_marks : Written → List Bool
block_marks w = false ∷ false ∷ tree_marks 0 0 w (false ∷ [])
