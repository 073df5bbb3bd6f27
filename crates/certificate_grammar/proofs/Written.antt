-- From the grammar to trees as they are written: their tokens, meaning and limits.
use Rattle.std.proofs.Common.{◌≡◌, ℕ, ◌+◌, ◌-◌, ◌^◌, ◌<◌, ◌≤◌, Bool, false, ◌||◌, nat_le, List, [], ◌∷◌, ◌++◌, map, length, refl, sym, ap, ◌∙◌, subst, arith, append_assoc}
use Rattle.std.proofs.lemmas.List.{length-map}
use Rattle.st_linear.specs.Linear.{number}
use Rattle.st_certificate.specs.Tree.{Step, by_cut, Tree, Trees, branch, farkas, linear, no_tree, with_tree}
use Rattle.cert_text.specs.declared.scan.Token.{Token}
use Rattle.cert_text.specs.declared.scan.Token.TheVariants.{Word, Sign}
use Rattle.cert_text.specs.declared.scan.Word.TheVariants.{Farkas, Linear, Cut}
use Rattle.cert_text.specs.declared.scan.Branching.TheVariants as nodes
use Rattle.cert_text.specs.Grammar.{int_tokens, entry_of, Written, w_absurd, w_farkas, w_linear, w_node, w_cut, Rows, w_last, w_and, tree_tokens, rows_tokens, meaning, meanings, IsProper, AreProper, tree_count, row_count, none_left, is_long, is_long_entry, picks_over, lines_over, terms_over, tree_over, rows_over}
use Rattle.farkas_leaf.specs.Lines.{RiseWithin}
use Rattle.certificate_grammar.specs.Grammar.{IsPick, IsLine, IsTerm, IsDivision, a_case, a_truth, a_split, a_constant, a_cut, IsLeaf, is_absurd, is_farkas, is_linear, IsTree, leaf, divided, AreTrees, last_tree, tree_and}
use Rattle.certificate_grammar.proofs.Numbers.{both_false, of_below, of_short, test_of_entry, int_written}
use Rattle.certificate_grammar.proofs.Lists.{all_written}
use Rattle.certificate_grammar.proofs.Leaves.{picks, pick_written, picks_same, picks_within, lines, line_written, lines_within, terms, term_written, terms_proper, terms_within}

some_left : (trees depth : ℕ) → trees < 100000 → depth < 400 → none_left trees depth ≡ false
some_left trees depth a b = both_false (nat_le 100000 trees) (nat_le 400 depth) (of_below 100000 trees a) (of_below 400 depth b)

-- a division as it is written, whatever trees it divides into
record WroteDivision (ts : List Token) (s : Step) : Type 0 where
  tree : Rows → Written
  spelled : (ws : Rows) (k : List Token) → tree_tokens (tree ws) k ≡ ts ++ Sign 123 ∷ rows_tokens ws (Sign 125 ∷ k)
  means : (ws : Rows) → meaning (tree ws) ≡ branch s (meanings ws)
  proper : (second : Bool) (ws : Rows) → AreProper second ws → IsProper second (tree ws)
  counts : (ws : Rows) → tree_count (tree ws) ≡ 1 + row_count ws
  within : (trees depth : ℕ) (ws : Rows) → none_left trees depth ≡ false → rows_over (trees + 1) (depth + 1) ws ≡ false → tree_over trees depth (tree ws) ≡ false

node_within : (n trees depth : ℕ) (ws : Rows) → n + 1 < 2 ^ 32 → none_left trees depth ≡ false → rows_over (trees + 1) (depth + 1) ws ≡ false → (none_left trees depth || (is_long (n + 1) || rows_over (trees + 1) (depth + 1) ws)) ≡ false
node_within n trees depth ws l e f =
    both_false (none_left trees depth) (is_long (n + 1) || rows_over (trees + 1) (depth + 1) ws) e (both_false (is_long (n + 1)) (rows_over (trees + 1) (depth + 1) ws) (of_short (n + 1) l) f)

division_written : (ts : List Token) (s : Step) → IsDivision ts s → WroteDivision ts s
division_written ts s (a_case {n} l) = record {
  tree = w_node nodes.Case n;
  spelled = λ ws k. refl;
  means = λ ws. refl;
  proper = λ second ws p. p;
  counts = λ ws. refl;
  within = λ trees depth ws e f. node_within n trees depth ws l e f;
}
division_written ts s (a_truth {n} l) = record {
  tree = w_node nodes.Truth n;
  spelled = λ ws k. refl;
  means = λ ws. refl;
  proper = λ second ws p. p;
  counts = λ ws. refl;
  within = λ trees depth ws e f. node_within n trees depth ws l e f;
}
division_written ts s (a_split {n} l) = record {
  tree = w_node nodes.Split n;
  spelled = λ ws k. refl;
  means = λ ws. refl;
  proper = λ second ws p. p;
  counts = λ ws. refl;
  within = λ trees depth ws e f. node_within n trees depth ws l e f;
}
division_written ts s (a_constant {ts = b} {z} i) =
    let r = int_written (2 ^ 60) b z i in
    let over = λ (trees depth : ℕ) (ws : Rows). rows_over (trees + 1) (depth + 1) ws in
    record {
      tree = w_cut [] r.int;
      spelled = λ ws k. (
          let rest = Sign 123 ∷ rows_tokens ws (Sign 125 ∷ k) in
          ap (λ j. Word Cut ∷ Sign 91 ∷ Sign 59 ∷ j) (r.spelled (Sign 93 ∷ rest) ∙ sym (append_assoc b (Sign 93 ∷ []) rest))
          );
      means = λ ws. ap (λ y. branch (by_cut (number y)) (meanings ws)) r.means;
      proper = λ second ws p. (tt, p);
      counts = λ ws. refl;
      within = λ trees depth ws e f. both_false (none_left trees depth) (is_long_entry r.int.1 || over trees depth ws) e (both_false (is_long_entry r.int.1) (over trees depth ws) (test_of_entry r.int.1 r.within) f);
    }
division_written ts s (a_cut {a} {b} {es} {z} h rise i) =
    let r = all_written terms IsTerm term_written a es h in
    let c = int_written (2 ^ 60) b z i in
    let us = r.item ∷ r.items in
    let rises = subst (RiseWithin (2 ^ 32 - 1) 0) (sym r.means) rise in
    let over = λ (trees depth : ℕ) (ws : Rows). rows_over (trees + 1) (depth + 1) ws in
    record {
      tree = w_cut us c.int;
      spelled = λ ws k. (
          let rest = Sign 123 ∷ rows_tokens ws (Sign 125 ∷ k) in
          ap (λ j. Word Cut ∷ Sign 91 ∷ j) (
          r.spelled (Sign 59 ∷ int_tokens c.int (Sign 93 ∷ rest)) ∙ ap (λ j. a ++ Sign 59 ∷ j) (c.spelled (Sign 93 ∷ rest) ∙ sym (append_assoc b (Sign 93 ∷ []) rest))
          ∙ sym (append_assoc a (Sign 59 ∷ (b ++ Sign 93 ∷ [])) rest)
          )
          );
      means = λ ws. (
          ap (λ y. branch (by_cut (record { constant = y; entries = map entry_of us })) (meanings ws)) c.means
          ∙ ap (λ l. branch (by_cut (record { constant = z; entries = l })) (meanings ws)) r.means
          );
      proper = λ second ws p. (terms_proper us 0 r.good rises, p);
      counts = λ ws. refl;
      within = λ trees depth ws e f. both_false (none_left trees depth) (terms_over us || (is_long_entry c.int.1 || over trees depth ws)) e (
          both_false (terms_over us) (is_long_entry c.int.1 || over trees depth ws) (terms_within us 0 r.good rises) (both_false (is_long_entry c.int.1) (over trees depth ws) (test_of_entry c.int.1 c.within) f)
          );
    }

-- a leaf as it is written
record WroteLeaf (second : Bool) (ts : List Token) (t : Tree) : Type 0 where
  tree : Written
  spelled : (k : List Token) → tree_tokens tree k ≡ ts ++ k
  means : meaning tree ≡ t
  proper : IsProper second tree
  counts : tree_count tree ≡ 1
  within : (trees depth : ℕ) → none_left trees depth ≡ false → tree_over trees depth tree ≡ false

leaf_written : (second : Bool) (ts : List Token) (t : Tree) → IsLeaf second ts t → WroteLeaf second ts t
leaf_written second ts t is_absurd = record { tree = w_absurd; spelled = λ k. refl; means = refl; proper = tt; counts = refl; within = λ trees depth e. e }
leaf_written second ts t (is_farkas {ts = us} {ps} h few) =
    let r = all_written picks IsPick pick_written us ps h in
    let same : r.item ∷ r.items ≡ ps = sym (picks_same (r.item ∷ r.items)) ∙ r.means in
    let len = ap length same in
    record {
      tree = w_farkas r.item r.items;
      spelled = λ k. ap (λ j. Word Farkas ∷ Sign 91 ∷ j) (r.spelled (Sign 93 ∷ k) ∙ sym (append_assoc us (Sign 93 ∷ []) k));
      means = ap farkas same;
      proper = tt;
      counts = refl;
      within = λ trees depth e. both_false (none_left trees depth) (picks_over 0 (r.item ∷ r.items)) e (picks_within (r.item ∷ r.items) 0 r.good (omega (arith, few, len)));
    }
leaf_written second ts t (is_linear {ts = us} {ps} s h few) =
    let r = all_written lines IsLine line_written us ps h in
    let len = ap length r.means in
    let len2 = length-map (r.item ∷ r.items) entry_of in
    record {
      tree = w_linear r.item r.items;
      spelled = λ k. ap (λ j. Word Linear ∷ Sign 91 ∷ j) (r.spelled (Sign 93 ∷ k) ∙ sym (append_assoc us (Sign 93 ∷ []) k));
      means = ap linear r.means;
      proper = s;
      counts = refl;
      within = λ trees depth e. both_false (none_left trees depth) (lines_over 0 (r.item ∷ r.items)) e (lines_within (r.item ∷ r.items) 0 r.good (omega (arith, few, len, len2)));
    }

-- a tree as it is written
pub record WroteTree (second : Bool) (room count : ℕ) (ts : List Token) (t : Tree) : Type 0 where
  pub tree : Written
  pub spelled : (k : List Token) → tree_tokens tree k ≡ ts ++ k
  pub means : meaning tree ≡ t
  pub proper : IsProper second tree
  pub counts : tree_count tree ≡ count
  pub within : (trees depth : ℕ) → trees + tree_count tree ≤ 100000 → depth + room ≤ 400 → tree_over trees depth tree ≡ false

record WroteRows (second : Bool) (room count : ℕ) (ts : List Token) (xs : Trees) : Type 0 where
  rows : Rows
  spelled : (k : List Token) → rows_tokens rows k ≡ ts ++ k
  means : meanings rows ≡ xs
  proper : AreProper second rows
  counts : row_count rows ≡ count
  within : (trees depth : ℕ) → trees + row_count rows ≤ 100000 → depth + room ≤ 400 → rows_over trees depth rows ≡ false

mutual
  pub tree_written : (second : Bool) (room count : ℕ) (ts : List Token) (t : Tree) → IsTree second room count ts t → WroteTree second room count ts t
  tree_written second room count ts t (leaf {levels = inner} {ts = us} {t = u} h) =
      let r = leaf_written second us u h in
      let there = r.counts in
      record {
        tree = r.tree;
        spelled = r.spelled;
        means = r.means;
        proper = r.proper;
        counts = there;
        within = λ trees depth few inside. r.within trees depth (some_left trees depth (omega (arith, few, there)) (omega (arith, inside)));
      }
  tree_written second room count ts t (divided {levels = inner} {n} {a} {b} {s} {xs} h hs) =
      let d = division_written a s h in
      let r = trees_written second inner n b xs hs in
      let there = d.counts r.rows in
      record {
        tree = d.tree r.rows;
        spelled = λ k. d.spelled r.rows k ∙ ap (λ j. a ++ Sign 123 ∷ j) (r.spelled (Sign 125 ∷ k) ∙ sym (append_assoc b (Sign 125 ∷ []) k)) ∙ sym (append_assoc a (Sign 123 ∷ (b ++ Sign 125 ∷ [])) k);
        means = d.means r.rows ∙ ap (branch s) r.means;
        proper = d.proper second r.rows r.proper;
        counts = there ∙ ap (λ m. 1 + m) r.counts;
        within = λ trees depth few inside. d.within trees depth r.rows (some_left trees depth (omega (arith, few, there)) (omega (arith, inside))) (r.within (trees + 1) (depth + 1) (omega (arith, few, there)) (omega (arith, inside)));
      }

  trees_written : (second : Bool) (room count : ℕ) (ts : List Token) (xs : Trees) → AreTrees second room count ts xs → WroteRows second room count ts xs
  trees_written second room count ts xs (last_tree {x = y} h) =
      let r = tree_written second room count ts y h in
      record {
        rows = w_last r.tree;
        spelled = r.spelled;
        means = ap (λ t. with_tree t no_tree) r.means;
        proper = r.proper;
        counts = r.counts;
        within = r.within;
      }
  trees_written second room count ts xs (tree_and {m} {n} {a} {b} {x = y} {xs = ys} h hs) =
      let r = tree_written second room m a y h in
      let rs = trees_written second room n b ys hs in
      record {
        rows = w_and r.tree rs.rows;
        spelled = λ k. r.spelled (rows_tokens rs.rows k) ∙ ap (λ l. a ++ l) (rs.spelled k) ∙ sym (append_assoc a b k);
        means = ap (λ t. with_tree t (meanings rs.rows)) r.means ∙ ap (with_tree y) rs.means;
        proper = (r.proper, rs.proper);
        counts = ap (λ c. c + row_count rs.rows) r.counts ∙ ap (λ c. m + c) rs.counts;
        within = λ trees depth few inside. both_false (tree_over trees depth r.tree) (rows_over (trees + tree_count r.tree) depth rs.rows) (r.within trees depth (omega (arith, few)) inside) (rs.within (trees + tree_count r.tree) depth (omega (arith, few)) inside);
      }
