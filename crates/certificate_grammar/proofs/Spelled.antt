-- From trees as they are written, within their limits, back to the grammar.
use Rattle.std.proofs.Common.{◌≡◌, ℕ, zero, suc, ◌+◌, ◌^◌, ◌<◌, ◌≤◌, Bool, false, ◌||◌, nat_le, List, [], ◌∷◌, ◌++◌, map, refl, sym, ap, ◌∙◌, subst, arith, append_assoc}
use Rattle.std.proofs.lemmas.List.{length-map}
use Rattle.st_certificate.specs.Tree.{Step, by_cut, branch}
use Rattle.cert_text.specs.declared.scan.Branching.{Branching}
use Rattle.cert_text.specs.declared.scan.Branching.TheVariants as nodes
use Rattle.cert_text.specs.declared.scan.Token.{Token}
use Rattle.cert_text.specs.declared.scan.Token.TheVariants.{Word, Sign}
use Rattle.cert_text.specs.declared.scan.Word.TheVariants.{Absurd, Farkas, Linear, Cut}
use Rattle.cert_text.specs.Grammar.{Int, int_value, int_tokens, entry_of, Written, w_absurd, w_farkas, w_linear, w_node, w_cut, Rows, w_last, w_and, tree_tokens, rows_tokens, meaning, meanings, IsProper, AreProper, AreTerms, tree_count, row_count, none_left, is_long, is_long_entry, picks_over, lines_over, terms_over, tree_over, rows_over}
use Rattle.certificate_grammar.specs.Grammar.{Listed, IsPick, IsLine, IsTerm, IsDivision, a_case, a_truth, a_split, a_constant, a_cut, is_absurd, is_farkas, is_linear, IsTree, leaf, divided, AreTrees, last_tree, tree_and}
use Rattle.certificate_grammar.proofs.Numbers.{neither, below_of, short_of, entry_of_test, int_spelled}
use Rattle.certificate_grammar.proofs.Lists.{all_stand}
use Rattle.certificate_grammar.proofs.Leaves.{picks, pick_stands, picks_same, picks_short, lines, line_stands, lines_short, terms, term_stands, terms_good, terms_rise}

-- a tree has room
record Left (trees depth : ℕ) : Type 0 where
  few : trees < 100000
  inside : depth < 400

left_of : (trees depth : ℕ) → none_left trees depth ≡ false → Left trees depth
left_of trees depth e =
    let r = neither (nat_le 100000 trees) (nat_le 400 depth) e in record { few = below_of 100000 trees r.0; inside = below_of 400 depth r.1 }

tree_left : (w : Written) (trees depth : ℕ) → tree_over trees depth w ≡ false → Left trees depth
tree_left w_absurd trees depth e = left_of trees depth e
tree_left (w_farkas p ps) trees depth e = left_of trees depth (neither (none_left trees depth) (picks_over 0 (p ∷ ps)) e).0
tree_left (w_linear p ps) trees depth e = left_of trees depth (neither (none_left trees depth) (lines_over 0 (p ∷ ps)) e).0
tree_left (w_node b n ws) trees depth e = left_of trees depth (neither (none_left trees depth) (is_long (n + 1) || rows_over (trees + 1) (depth + 1) ws) e).0
tree_left (w_cut ts c ws) trees depth e = left_of trees depth (neither (none_left trees depth) (terms_over ts || (is_long_entry c.1 || rows_over (trees + 1) (depth + 1) ws)) e).0

-- the tokens of a division, and its step
record SpelledDivision (w : Rows → Written) (step : Step) : Type 0 where
  ts : List Token
  spelled : (ws : Rows) (k : List Token) → tree_tokens (w ws) k ≡ ts ++ Sign 123 ∷ rows_tokens ws (Sign 125 ∷ k)
  is : IsDivision ts step

cut_spelled : (ts : List (ℕ × Int)) (c : Int) → AreTerms 0 ts → terms_over ts ≡ false → is_long_entry c.1 ≡ false → SpelledDivision (w_cut ts c) (by_cut (record { constant = int_value c; entries = map entry_of ts }))
cut_spelled [] c p e f =
    let r = int_spelled (2 ^ 60) c (entry_of_test c.1 f) in
    record {
      ts = Word Cut ∷ Sign 91 ∷ Sign 59 ∷ (r.ts ++ Sign 93 ∷ []);
      spelled = λ ws k. (
          let rest = Sign 123 ∷ rows_tokens ws (Sign 125 ∷ k) in
          ap (λ j. Word Cut ∷ Sign 91 ∷ Sign 59 ∷ j) (r.spelled (Sign 93 ∷ rest) ∙ sym (append_assoc r.ts (Sign 93 ∷ []) rest))
          );
      is = a_constant r.is;
    }
cut_spelled (t ∷ us) c p e f =
    let i = int_spelled (2 ^ 60) c (entry_of_test c.1 f) in
    let r = all_stand terms IsTerm term_stands t us (terms_good (t ∷ us) 0 p e) in
    record {
      ts = Word Cut ∷ Sign 91 ∷ (r.ts ++ Sign 59 ∷ (i.ts ++ Sign 93 ∷ []));
      spelled = λ ws k. (
          let rest = Sign 123 ∷ rows_tokens ws (Sign 125 ∷ k) in
          ap (λ j. Word Cut ∷ Sign 91 ∷ j) (
          r.spelled (Sign 59 ∷ int_tokens c (Sign 93 ∷ rest)) ∙ ap (λ j. r.ts ++ Sign 59 ∷ j) (i.spelled (Sign 93 ∷ rest) ∙ sym (append_assoc i.ts (Sign 93 ∷ []) rest))
          ∙ sym (append_assoc r.ts (Sign 59 ∷ (i.ts ++ Sign 93 ∷ [])) rest)
          )
          );
      is = a_cut r.is (terms_rise (t ∷ us) 0 p e) i.is;
    }

-- a tree of the grammar, and how many trees there are with it
pub record SpelledTree (second : Bool) (room trees : ℕ) (w : Written) : Type 0 where
  pub ts : List Token
  pub spelled : (k : List Token) → tree_tokens w k ≡ ts ++ k
  pub is : IsTree second room (tree_count w) ts (meaning w)
  pub few : trees + tree_count w ≤ 100000

record SpelledRows (second : Bool) (room trees : ℕ) (ws : Rows) : Type 0 where
  ts : List Token
  spelled : (k : List Token) → rows_tokens ws k ≡ ts ++ k
  is : AreTrees second room (row_count ws) ts (meanings ws)
  few : trees + row_count ws ≤ 100000

branch_spelled : (second : Bool) (room trees : ℕ) (w : Rows → Written) (s : Step) (ws : Rows) → SpelledDivision w s → ((vs : Rows) → tree_count (w vs) ≡ 1 + row_count vs) → ((vs : Rows) → meaning (w vs) ≡ branch s (meanings vs)) → SpelledRows second room (trees + 1) ws → SpelledTree second (suc room) trees (w ws)
branch_spelled second room trees w s ws d count means r =
    let few = r.few in
    let there = count ws in
    record {
      ts = d.ts ++ Sign 123 ∷ (r.ts ++ Sign 125 ∷ []);
      spelled = λ k. d.spelled ws k ∙ ap (λ j. d.ts ++ Sign 123 ∷ j) (r.spelled (Sign 125 ∷ k) ∙ sym (append_assoc r.ts (Sign 125 ∷ []) k)) ∙ sym (append_assoc d.ts (Sign 123 ∷ (r.ts ++ Sign 125 ∷ [])) k);
      is = subst (λ n. IsTree second (suc room) n (d.ts ++ Sign 123 ∷ (r.ts ++ Sign 125 ∷ [])) (meaning (w ws))) (sym there) (subst (IsTree second (suc room) (1 + row_count ws) (d.ts ++ Sign 123 ∷ (r.ts ++ Sign 125 ∷ []))) (sym (means ws)) (divided d.is r.is));
      few = omega (arith, few, there);
    }

node_spelled : (second : Bool) (room trees : ℕ) (b : Branching) (n : ℕ) (ws : Rows) → n + 1 < 2 ^ 32 → SpelledRows second room (trees + 1) ws → SpelledTree second (suc room) trees (w_node b n ws)
node_spelled second room trees nodes.Case n ws l r = branch_spelled second room trees (w_node nodes.Case n) _ ws (record { ts = _; spelled = λ vs k. refl; is = a_case l }) (λ vs. refl) (λ vs. refl) r
node_spelled second room trees nodes.Truth n ws l r = branch_spelled second room trees (w_node nodes.Truth n) _ ws (record { ts = _; spelled = λ vs k. refl; is = a_truth l }) (λ vs. refl) (λ vs. refl) r
node_spelled second room trees nodes.Split n ws l r = branch_spelled second room trees (w_node nodes.Split n) _ ws (record { ts = _; spelled = λ vs k. refl; is = a_split l }) (λ vs. refl) (λ vs. refl) r

mutual
  pub tree_spelled : (second : Bool) (room : ℕ) (w : Written) (trees depth : ℕ) → 400 ≤ depth + room → IsProper second w → tree_over trees depth w ≡ false → SpelledTree second room trees w
  tree_spelled second zero w trees depth l p e = let inside = (tree_left w trees depth e).inside in absurd (omega (arith, l, inside))
  tree_spelled second (suc room) w_absurd trees depth l p e =
      let few = (tree_left w_absurd trees depth e).few in
      record { ts = Word Absurd ∷ []; spelled = λ k. refl; is = leaf is_absurd; few = omega (arith, few) }
  tree_spelled second (suc room) (w_farkas q qs) trees depth l p e =
      let few = (tree_left (w_farkas q qs) trees depth e).few in
      let s = picks_short q qs 0 (neither (none_left trees depth) (picks_over 0 (q ∷ qs)) e).1 in
      let r = all_stand picks IsPick pick_stands q qs s.0 in
      let short = s.1 in
      record {
        ts = Word Farkas ∷ Sign 91 ∷ (r.ts ++ Sign 93 ∷ []);
        spelled = λ k. ap (λ j. Word Farkas ∷ Sign 91 ∷ j) (r.spelled (Sign 93 ∷ k) ∙ sym (append_assoc r.ts (Sign 93 ∷ []) k));
        is = leaf (is_farkas (subst (Listed IsPick r.ts) (picks_same (q ∷ qs)) r.is) (omega (arith, short)));
        few = omega (arith, few);
      }
  tree_spelled second (suc room) (w_linear q qs) trees depth l p e =
      let few = (tree_left (w_linear q qs) trees depth e).few in
      let s = lines_short q qs 0 (neither (none_left trees depth) (lines_over 0 (q ∷ qs)) e).1 in
      let r = all_stand lines IsLine line_stands q qs s.0 in
      let short = s.1 in
      let len = length-map (q ∷ qs) entry_of in
      record {
        ts = Word Linear ∷ Sign 91 ∷ (r.ts ++ Sign 93 ∷ []);
        spelled = λ k. ap (λ j. Word Linear ∷ Sign 91 ∷ j) (r.spelled (Sign 93 ∷ k) ∙ sym (append_assoc r.ts (Sign 93 ∷ []) k));
        is = leaf (is_linear p r.is (omega (arith, short, len)));
        few = omega (arith, few);
      }
  tree_spelled second (suc room) (w_node b n ws) trees depth l p e =
      let over = neither (is_long (n + 1)) (rows_over (trees + 1) (depth + 1) ws) (neither (none_left trees depth) (is_long (n + 1) || rows_over (trees + 1) (depth + 1) ws) e).1 in
      node_spelled second room trees b n ws (short_of (n + 1) over.0) (rows_spelled second room ws (trees + 1) (depth + 1) (omega (arith, l)) p over.1)
  tree_spelled second (suc room) (w_cut ts c ws) trees depth l p e =
      let rest = is_long_entry c.1 || rows_over (trees + 1) (depth + 1) ws in
      let a = neither (terms_over ts) rest (neither (none_left trees depth) (terms_over ts || rest) e).1 in
      let b = neither (is_long_entry c.1) (rows_over (trees + 1) (depth + 1) ws) a.1 in
      branch_spelled second room trees (w_cut ts c) _ ws (cut_spelled ts c p.0 a.0 b.0) (λ vs. refl) (λ vs. refl) (rows_spelled second room ws (trees + 1) (depth + 1) (omega (arith, l)) p.1 b.1)

  rows_spelled : (second : Bool) (room : ℕ) (ws : Rows) (trees depth : ℕ) → 400 ≤ depth + room → AreProper second ws → rows_over trees depth ws ≡ false → SpelledRows second room trees ws
  rows_spelled second room (w_last w) trees depth l p e =
      let r = tree_spelled second room w trees depth l p e in
      record { ts = r.ts; spelled = r.spelled; is = last_tree r.is; few = r.few }
  rows_spelled second room (w_and w ws) trees depth l p e =
      let over = neither (tree_over trees depth w) (rows_over (trees + tree_count w) depth ws) e in
      let r = tree_spelled second room w trees depth l p.0 over.0 in
      let rs = rows_spelled second room ws (trees + tree_count w) depth l p.1 over.1 in
      let few = rs.few in
      record {
        ts = r.ts ++ rs.ts;
        spelled = λ k. r.spelled (rows_tokens ws k) ∙ ap (λ j. r.ts ++ j) (rs.spelled k) ∙ sym (append_assoc r.ts rs.ts k);
        is = tree_and r.is rs.is;
        few = omega (arith, few);
      }
