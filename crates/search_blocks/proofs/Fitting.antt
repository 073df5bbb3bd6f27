-- A tree as it is written, without cuts and Farkas leaves: where its numbers are within their limits and the tree isn't too
-- large, neither is the block.
use Rattle.std.proofs.Common.{◌≡◌, ℕ, suc, ◌+◌, ◌<◌, ◌≤◌, Bool, true, false, ◌||◌, nat_le, List, [], ◌∷◌, map, refl, ap, ◌∙◌, arith, ℤ, pos, negsuc, unsigned_abs}
use Rattle.std.proofs.lemmas.Bool.Decides.{nat_tests}
use Rattle.cert_text.specs.declared.scan.Branching.{Branching}
use Rattle.cert_text.specs.declared.scan.Branching.TheVariants as nodes
use Rattle.st_certificate.specs.Tree.{Tree, Trees, impossible, branch, farkas, linear}
use Rattle.cert_text.specs.Tree.{branching_of}
use Rattle.cert_text.specs.Grammar.{Int, int_value, entry_of, Written, w_absurd, w_farkas, w_linear, w_node, w_cut, Rows, w_last, w_and, meaning, meanings, IsProper, AreProper, tree_count, row_count, is_long, lines_over, none_left, tree_over, rows_over}
use Rattle.search_laws.specs.Sizes.{nodes, nodes_of, levels, levels_of}

pub or_false : (a b : Bool) → a ≡ false → b ≡ false → (a || b) ≡ false
or_false true b h g = cc
or_false false b h g = g

abbrev mutual
  -- each number is within its limit
  pub IsNumbered : Written → Type 0
  IsNumbered w_absurd = Unit {0}
  IsNumbered (w_farkas p ps) = ⊥
  IsNumbered (w_linear p ps) = lines_over 0 (p ∷ ps) ≡ false
  IsNumbered (w_node b n ws) = (is_long (n + 1) ≡ false) × AreNumbered ws
  IsNumbered (w_cut ts c ws) = ⊥

  pub AreNumbered : Rows → Type 0
  AreNumbered (w_last w) = IsNumbered w
  AreNumbered (w_and w ws) = IsNumbered w × AreNumbered ws

mutual
  pub proper : (w : Written) → IsNumbered w → IsProper true w
  proper w_absurd h = tt
  proper (w_farkas p ps) h = absurd h
  proper (w_linear p ps) h = refl
  proper (w_node b n ws) h = all_proper ws h.1
  proper (w_cut ts c ws) h = absurd h

  all_proper : (ws : Rows) → AreNumbered ws → AreProper true ws
  all_proper (w_last w) h = proper w h
  all_proper (w_and w ws) h = (proper w h.0, all_proper ws h.1)

-- a node's size
node_count : (b : Branching) (n : ℕ) (ts : Trees) → nodes (branching_of b n ts) ≡ 1 + nodes_of ts
node_count nodes.Case n ts = refl
node_count nodes.Truth n ts = refl
node_count nodes.Split n ts = refl

node_levels : (b : Branching) (n : ℕ) (ts : Trees) → levels (branching_of b n ts) ≡ 1 + levels_of ts
node_levels nodes.Case n ts = refl
node_levels nodes.Truth n ts = refl
node_levels nodes.Split n ts = refl

mutual
  count_is : (w : Written) → IsNumbered w → tree_count w ≡ nodes (meaning w)
  count_is w_absurd h = refl
  count_is (w_farkas p ps) h = refl
  count_is (w_linear p ps) h = refl
  count_is (w_node b n ws) h = let e = node_count b n (meanings ws) in let g = counts_are ws h.1 in omega (arith, e, g)
  count_is (w_cut ts c ws) h = absurd h

  counts_are : (ws : Rows) → AreNumbered ws → row_count ws ≡ nodes_of (meanings ws)
  counts_are (w_last w) h = let e = count_is w h in omega (arith, e)
  counts_are (w_and w ws) h = let e = count_is w h.0 in let g = counts_are ws h.1 in omega (arith, e, g)

-- a tree has a node
some_nodes : (t : Tree) → (0 < nodes t) × (0 < levels t)
some_nodes impossible = (omega arith, omega arith)
some_nodes (branch s ts) = (omega arith, omega arith)
some_nodes (farkas ps) = (omega arith, omega arith)
some_nodes (linear ps) = (omega arith, omega arith)

room : (trees depth : ℕ) → trees < 100000 → depth < 400 → none_left trees depth ≡ false
room trees depth h g = or_false (nat_le 100000 trees) (nat_le 400 depth) (grind (arith, nat_tests)) (grind (arith, nat_tests))

-- room for a tree of this size
abbrev Fits : ℕ → ℕ → ℕ → ℕ → Type 0
Fits trees depth count high = (trees + count ≤ 100000) × (depth + high ≤ 400)

fits_one : (trees depth : ℕ) (t : Tree) → Fits trees depth (nodes t) (levels t) → none_left trees depth ≡ false
fits_one trees depth t h =
    let s = some_nodes t in room trees depth (omega (arith, h.0, s.0)) (omega (arith, h.1, s.1))

mutual
  pub within : (w : Written) (trees depth : ℕ) → IsNumbered w → Fits trees depth (nodes (meaning w)) (levels (meaning w)) → tree_over trees depth w ≡ false
  within w_absurd trees depth h f = fits_one trees depth (meaning w_absurd) f
  within (w_farkas p ps) trees depth h f = absurd h
  within (w_linear p ps) trees depth h f = or_false (none_left trees depth) (lines_over 0 (p ∷ ps)) (fits_one trees depth (meaning (w_linear p ps)) f) h
  within (w_node b n ws) trees depth h f =
      let e = node_count b n (meanings ws) in
      let g = node_levels b n (meanings ws) in
      or_false (none_left trees depth) (is_long (n + 1) || rows_over (trees + 1) (depth + 1) ws) (fits_one trees depth (meaning (w_node b n ws)) f)
      (or_false (is_long (n + 1)) (rows_over (trees + 1) (depth + 1) ws) h.0 (all_within ws (trees + 1) (depth + 1) h.1 (omega (arith, f.0, e), omega (arith, f.1, g))))
  within (w_cut ts c ws) trees depth h f = absurd h

  all_within : (ws : Rows) (trees depth : ℕ) → AreNumbered ws → Fits trees depth (nodes_of (meanings ws)) (levels_of (meanings ws)) → rows_over trees depth ws ≡ false
  all_within (w_last w) trees depth h f = within w trees depth h (omega (arith, f.0), omega (arith, f.1))
  all_within (w_and w ws) trees depth h f =
      let e = count_is w h.0 in
      or_false (tree_over trees depth w) (rows_over (trees + tree_count w) depth ws)
      (within w trees depth h.0 (omega (arith, f.0), omega (arith, f.1)))
      (all_within ws (trees + tree_count w) depth h.1 (omega (arith, f.0, e), omega (arith, f.1)))

-- a multiplier, with its sign in front
abbrev int_of : ℤ → Int
int_of (pos n) = (false, n)
int_of (negsuc n) = (true, suc n)

int_same : (z : ℤ) → int_value (int_of z) ≡ z
int_same (pos n) = refl
int_same (negsuc n) = refl

pub line_size : (z : ℤ) → (int_of z).1 ≡ unsigned_abs z
line_size (pos n) = refl
line_size (negsuc n) = refl

abbrev pub line_of : ℕ × ℤ → ℕ × Int
line_of p = (p.0, int_of p.1)

pub lines_same : (ps : List (ℕ × ℤ)) → map entry_of (map line_of ps) ≡ ps
lines_same [] = refl
lines_same (p ∷ ps) = ap (λ z. (p.0, z) ∷ map entry_of (map line_of ps)) (int_same p.1) ∙ ap (λ es. p ∷ es) (lines_same ps)
