use Rattle.std.proofs.Common.{◌≡◌, ℕ, ◌+◌, ◌-◌, Bool, true, false, cond, ◌||◌, List, [], ◌∷◌, ◌++◌, map, refl, ap, ◌∙◌, arith, nat_lt, nat_le, ◌==◌, Some, append_assoc}
use Rattle.std.proofs.lemmas.Bool.Decides.{nat_tests}
use Rattle.st_linear.specs.Linear.{Linear, of_entries}
use Rattle.cert_text.specs.declared.scan.Branching.{Branching}
use Rattle.cert_text.specs.declared.scan.Branching.TheVariants as nodes
use Rattle.cert_text.specs.declared.scan.Want.TheVariants as wants
use Rattle.cert_text.specs.declared.scan.Action.TheVariants as actions
use Rattle.cert_text.specs.declared.scan.Given.TheVariants as givens
use Rattle.cert_text.specs.declared.scan.Token.{Token}
use Rattle.cert_text.specs.declared.scan.Token.TheVariants as tokens
use Rattle.cert_text.specs.Heads.{Head}
use Rattle.cert_text.specs.Heads as heads
use Rattle.cert_text.specs.Control.{give, behind, tree_begun}
use Rattle.st_certificate.specs.Tree.{Tree, with_tree, trees as trees_of, branch, by_cut}
use Rattle.cert_text.specs.Tree.{Open, closed, branching_of, cut_entered}
use Rattle.cert_text.specs.Grammar.{Int, int_value, int_tokens, entry_of, Written, w_absurd, w_farkas, w_linear, w_node, w_cut, Rows, w_last, w_and, pick_tokens, picks_tokens, line_tokens, lines_tokens, terms_tokens, tree_tokens, rows_tokens, meaning, meanings, IsProper, AreProper, tree_count, row_count, none_left, terms_over, is_long, is_long_entry, picks_over, lines_over, tree_over, rows_over, word_of_node, block_tokens}
use Rattle.cert_text.specs.Run.{Run, passed, go, run, scan_at, want_behind}
use Rattle.cert_text.proofs.PickReads.{joined_over, go_cond, not_none, one_less}
use Rattle.cert_text.proofs.LeafReads.{built_with, built_at, behind_is, cond_under, leaf_read, linear_read, terms_read, constant_read}
use Rattle.cert_text.proofs.CutReads.{cut_form}
use Rattle.basic_laws.proofs.Numbers.{same_test as same_number}

-- the trees of a row as a list
abbrev pub row_list : Rows → List Tree
row_list (w_last w) = meaning w ∷ []
row_list (w_and w ws) = meaning w ∷ row_list ws

pub row_trees : (ws : Rows) → trees_of (row_list ws) ≡ meanings ws
row_trees (w_last w) = refl
row_trees (w_and w ws) = ap (with_tree (meaning w)) (row_trees ws)

node_word : (number : ℕ) (second : Bool) (end : Bool) (depth trees : ℕ) (b : Branching) → give (scan_at number second (wants.Tree end) depth trees) (tokens.Word (word_of_node b)) ≡ cond (none_left trees depth) givens.Over (givens.On (scan_at number second (wants.Subject b) depth (trees + 1)) actions.Nothing)
node_word number second end depth trees nodes.Case = refl
node_word number second end depth trees nodes.Truth = refl
node_word number second end depth trees nodes.Split = refl

deep_enough : (trees depth : ℕ) → none_left trees depth ≡ false → nat_le 400 depth ≡ false
deep_enough trees depth h = grind (arith, nat_tests)

one_deeper : (depth : ℕ) → want_behind (depth + 1) ≡ wants.Tree true
one_deeper depth = ap (λ b. cond b wants.End (wants.Tree true)) (not_none depth)

more_than_none : (depth : ℕ) → nat_lt 0 (depth + 1) ≡ true
more_than_none depth = grind (arith, nat_tests)

-- the end of a row of trees
leave_read : (number : ℕ) (second : Bool) (depth trees : ℕ) (k : List Token) (h : Head) (ts us : List Tree) (os : List Open) → run (tokens.Sign 125 ∷ k) (scan_at number second (wants.Tree true) (depth + 1) trees) (built_at us (record { head = h; before = ts } ∷ os)) ≡ run k (scan_at number second (want_behind depth) depth trees) (built_at (ts ++ closed h (trees_of us) ∷ []) os)
leave_read number second depth trees k h ts us os =
    ap (λ b. go (cond b (behind (scan_at number second (wants.Tree true) (depth + 1) trees) (depth + 1 - 1) actions.Leave) givens.Wrong) (built_at us (record { head = h; before = ts } ∷ os)) (run k)) (more_than_none depth)
    ∙ ap (λ d. go (behind (scan_at number second (wants.Tree true) (depth + 1) trees) d actions.Leave) (built_at us (record { head = h; before = ts } ∷ os)) (run k)) (one_less depth)
    ∙ ap (λ g. go g (built_at us (record { head = h; before = ts } ∷ os)) (run k)) (behind_is number second (wants.Tree true) (depth + 1) trees depth actions.Leave)

sum3 : (a b : ℕ) → a + 1 + b ≡ a + (1 + b)
sum3 a b = omega arith

sum_assoc : (a b c : ℕ) → a + b + c ≡ a + (b + c)
sum_assoc a b c = omega arith

abbrev Behind : ℕ → Bool → ℕ → ℕ → List Token → List Tree → List Open → Run
Behind number second depth trees k ts os = run k (scan_at number second (want_behind depth) depth trees) (built_at ts os)

subject_read : (number : ℕ) (second : Bool) (depth trees : ℕ) (b : Branching) (n : ℕ) (k : List Token) (ts : List Tree) (os : List Open) → nat_le 400 depth ≡ false → run (tokens.Number (n + 1) ∷ tokens.Sign 123 ∷ k) (scan_at number second (wants.Subject b) depth trees) (built_at ts os) ≡ cond (is_long (n + 1)) passed (run k (scan_at number second (wants.Tree false) (depth + 1) trees) (built_at [] (record { head = heads.Node b n; before = ts } ∷ os)))
subject_read number second depth trees b n k ts os e = simp (not_none, go_cond, one_less, e)

-- the brace behind a cut
cut_read : (number : ℕ) (second : Bool) (depth trees : ℕ) (us : List (ℕ × Int)) (c : Int) (k : List Token) (ts : List Tree) (os : List Open) → nat_le 400 depth ≡ false → of_entries (int_value c) (map entry_of us) ≡ Some (record { constant = int_value c; entries = map entry_of us }) → run (tokens.Sign 123 ∷ k) (scan_at number second (wants.CutBranches c.0 c.1) depth trees) (built_with ts os [] [] (map entry_of us)) ≡ run k (scan_at number second (wants.Tree false) (depth + 1) trees) (built_at [] (record { head = heads.Cut (record { constant = int_value c; entries = map entry_of us }); before = ts } ∷ os))
cut_read number second depth trees us c k ts os e f =
    ap (λ b. go (cond b givens.Over (givens.On (scan_at number second (wants.Tree false) (depth + 1) trees) (actions.Cut c.0 c.1))) (built_with ts os [] [] (map entry_of us)) (run k)) e
    ∙ ap (λ o. run k (scan_at number second (wants.Tree false) (depth + 1) trees) (cut_entered o (built_with ts os [] [] (map entry_of us)))) f

mutual
  pub tree_read : (number : ℕ) (second end : Bool) (w : Written) (depth trees : ℕ) (k : List Token) (ts : List Tree) (os : List Open) → IsProper second w → run (tree_tokens w k) (scan_at number second (wants.Tree end) depth trees) (built_at ts os) ≡ cond (tree_over trees depth w) passed (Behind number second depth (trees + tree_count w) k (ts ++ meaning w ∷ []) os)
  tree_read number second end w_absurd depth trees k ts os h =
      go_cond (none_left trees depth) _ (built_at ts os) (run k) ∙ ap (λ g. cond (none_left trees depth) passed (go g (built_at ts os) (run k))) (behind_is number second (wants.Tree end) depth (trees + 1) depth actions.Absurd)
  tree_read number second end (w_farkas p ps) depth trees k ts os h =
      go_cond (none_left trees depth) _ (built_at ts os) (run (tokens.Sign 91 ∷ pick_tokens p (picks_tokens ps (tokens.Sign 93 ∷ k)))) ∙ ap (cond (none_left trees depth) passed) (leaf_read number second depth (trees + 1) p ps k ts os) ∙ joined_over (none_left trees depth) (picks_over 0 (p ∷ ps)) (Behind number second depth (trees + 1) k (ts ++ meaning (w_farkas p ps) ∷ []) os)
  tree_read number second end (w_linear p ps) depth trees k ts os h =
      ap (λ v. go (cond v (tree_begun (scan_at number second (wants.Tree end) depth trees) (wants.Picks true)) givens.Wrong) (built_at ts os) (run (tokens.Sign 91 ∷ line_tokens p (lines_tokens ps (tokens.Sign 93 ∷ k))))) h
      ∙ go_cond (none_left trees depth) _ (built_at ts os) (run (tokens.Sign 91 ∷ line_tokens p (lines_tokens ps (tokens.Sign 93 ∷ k)))) ∙ ap (cond (none_left trees depth) passed) (linear_read number second depth (trees + 1) p ps k ts os) ∙ joined_over (none_left trees depth) (lines_over 0 (p ∷ ps)) (Behind number second depth (trees + 1) k (ts ++ meaning (w_linear p ps) ∷ []) os)
  tree_read number second end (w_node b n ws) depth trees k ts os h =
      let over = none_left trees depth in
      let long = is_long (n + 1) in
      let rows = rows_tokens ws (tokens.Sign 125 ∷ k) in
      let done = Behind number second depth (trees + (1 + row_count ws)) k (ts ++ branching_of b n (meanings ws) ∷ []) os in
      ap (λ g. go g (built_at ts os) (run (tokens.Number (n + 1) ∷ tokens.Sign 123 ∷ rows))) (node_word number second end depth trees b)
      ∙ go_cond over _ (built_at ts os) (run (tokens.Number (n + 1) ∷ tokens.Sign 123 ∷ rows))
      ∙ cond_under over passed _ (cond (long || rows_over (trees + 1) (depth + 1) ws) passed done) (λ e.
      subject_read number second depth (trees + 1) b n rows ts os (deep_enough trees depth e)
      ∙ ap (cond long passed) (rows_read number second false ws depth (trees + 1) k (heads.Node b n) ts [] os h ∙ ap (λ us. cond (rows_over (trees + 1) (depth + 1) ws) passed (Behind number second depth (trees + 1 + row_count ws) k (ts ++ branching_of b n us ∷ []) os)) (row_trees ws) ∙ ap (λ m. cond (rows_over (trees + 1) (depth + 1) ws) passed (Behind number second depth m k (ts ++ branching_of b n (meanings ws) ∷ []) os)) (sum3 trees (row_count ws)))
      ∙ joined_over long (rows_over (trees + 1) (depth + 1) ws) done)
      ∙ joined_over over (long || rows_over (trees + 1) (depth + 1) ws) done
  tree_read number second end (w_cut us c ws) depth trees k ts os h =
      let over = none_left trees depth in
      let wide = terms_over us in
      let long = is_long_entry c.1 in
      let f : Linear = record { constant = int_value c; entries = map entry_of us } in
      let rows = rows_tokens ws (tokens.Sign 125 ∷ k) in
      let deep = rows_over (trees + 1) (depth + 1) ws in
      let done = Behind number second depth (trees + (1 + row_count ws)) k (ts ++ branch (by_cut f) (meanings ws) ∷ []) os in
      go_cond over _ (built_at ts os) (run (tokens.Sign 91 ∷ terms_tokens us (tokens.Sign 59 ∷ int_tokens c (tokens.Sign 93 ∷ tokens.Sign 123 ∷ rows))))
      ∙ cond_under over passed _ (cond (wide || (long || deep)) passed done) (λ e.
      terms_read number second depth (trees + 1) us (int_tokens c (tokens.Sign 93 ∷ tokens.Sign 123 ∷ rows)) ts os h.0
      ∙ cond_under wide passed _ (cond (long || deep) passed done) (λ o.
      constant_read number second depth (trees + 1) c.0 c.1 (tokens.Sign 123 ∷ rows) (built_with ts os [] [] (map entry_of us))
      ∙ cond_under long passed _ (cond deep passed done) (λ l.
      cut_read number second depth (trees + 1) us c rows ts os (deep_enough trees depth e) (cut_form us c h.0 o l)
      ∙ rows_read number second false ws depth (trees + 1) k (heads.Cut f) ts [] os h.1 ∙ ap (λ vs. cond deep passed (Behind number second depth (trees + 1 + row_count ws) k (ts ++ branch (by_cut f) vs ∷ []) os)) (row_trees ws) ∙ ap (λ m. cond deep passed (Behind number second depth m k (ts ++ branch (by_cut f) (meanings ws) ∷ []) os)) (sum3 trees (row_count ws)))
      ∙ joined_over long deep done)
      ∙ joined_over wide (long || deep) done)
      ∙ joined_over over (wide || (long || deep)) done

  pub rows_read : (number : ℕ) (second end : Bool) (ws : Rows) (depth trees : ℕ) (k : List Token) (h : Head) (ts us : List Tree) (os : List Open) → AreProper second ws → run (rows_tokens ws (tokens.Sign 125 ∷ k)) (scan_at number second (wants.Tree end) (depth + 1) trees) (built_at us (record { head = h; before = ts } ∷ os)) ≡ cond (rows_over trees (depth + 1) ws) passed (Behind number second depth (trees + row_count ws) k (ts ++ closed h (trees_of (us ++ row_list ws)) ∷ []) os)
  rows_read number second end (w_last w) depth trees k h ts us os p =
      tree_read number second end w (depth + 1) trees (tokens.Sign 125 ∷ k) us (record { head = h; before = ts } ∷ os) p
      ∙ ap (cond (tree_over trees (depth + 1) w) passed) (ap (λ v. run (tokens.Sign 125 ∷ k) (scan_at number second v (depth + 1) (trees + tree_count w)) (built_at (us ++ meaning w ∷ []) (record { head = h; before = ts } ∷ os))) (one_deeper depth) ∙ leave_read number second depth (trees + tree_count w) k h ts (us ++ meaning w ∷ []) os)
  rows_read number second end (w_and w ws) depth trees k h ts us os p =
      let rows = rows_tokens ws (tokens.Sign 125 ∷ k) in
      let deep = rows_over (trees + tree_count w) (depth + 1) ws in
      let done = λ (vs : List Tree) (m : ℕ). Behind number second depth m k (ts ++ closed h (trees_of vs) ∷ []) os in
      tree_read number second end w (depth + 1) trees rows us (record { head = h; before = ts } ∷ os) p.0
      ∙ ap (cond (tree_over trees (depth + 1) w) passed) (ap (λ v. run rows (scan_at number second v (depth + 1) (trees + tree_count w)) (built_at (us ++ meaning w ∷ []) (record { head = h; before = ts } ∷ os))) (one_deeper depth)
      ∙ rows_read number second true ws depth (trees + tree_count w) k h ts (us ++ meaning w ∷ []) os p.1
      ∙ ap (λ vs. cond deep passed (done vs (trees + tree_count w + row_count ws))) (append_assoc us (meaning w ∷ []) (row_list ws))
      ∙ ap (λ m. cond deep passed (done (us ++ row_list (w_and w ws)) m)) (sum_assoc trees (tree_count w) (row_count ws)))
      ∙ joined_over (tree_over trees (depth + 1) w) deep (done (us ++ row_list (w_and w ws)) (trees + row_count (w_and w ws)))

-- a block that a version allows is read to its end with what it means, unless it passes a limit
pub block_read : (number : ℕ) (header second : Bool) (w : Written) (k : List Token) → IsProper second w → run (block_tokens number w k) (scan_at number second (wants.Block header) 0 0) (built_at [] []) ≡ cond (tree_over 0 0 w) passed (run k (scan_at number second wants.Whole 0 (0 + tree_count w)) (built_at (meaning w ∷ []) []))
block_read number header second w k h =
    ap (λ b. go (cond b (givens.On (scan_at number second (wants.Tree false) 0 0) actions.Nothing) givens.Wrong) (built_at [] []) (run (tree_tokens w (tokens.Sign 59 ∷ k)))) (same_number number)
    ∙ tree_read number second false w 0 0 (tokens.Sign 59 ∷ k) [] [] h
