-- Drawings: trees that break no rule are what the grammar with rules spells.
use Rattle.std.proofs.Common.{◌≡◌, ℕ, ◌+◌, ◌<◌, Bool, false, true, not, ◌&&◌, nat_lt, List, [], ◌∷◌, length, map, Option, Some, None, refl, sym, ap, subst, ◌∙◌, arith, unwrap_or}
use Rattle.std.specs.Prelude.{is_none, is_some}
use Rattle.std.specs.Option.{option_map}
use Rattle.std.proofs.lemmas.Bool.Decides.{nat_tests}
use Rattle.st_tokens.specs.Stream.{Lexeme}
use Rattle.st_tokens.specs.declared.limit.LimitKind.TheVariants as limits
use Rattle.st_reading.specs.declared.mark.Mark.TheVariants as marks
use Rattle.st_reading.specs.Rule as rules
use Rattle.st_reading.specs.Breaches.{broke, limited}
use Rattle.st_reading.specs.Phrases.{Many, after_mark, none_more, one_more}
use Rattle.st_linear.specs.Linear.{Linear}
use Rattle.st_form.specs.Formula.{Formula, truth_value}
use Rattle.temporal_goals.specs.Texts.{PlainDiagram, PlainDrawnNode, PlainEdge}
use Rattle.temporal_goals.specs.declared.diagrams.DiagramKind.{DiagramKind}
use Rattle.diagram_reader.specs.Drawn.{Drawing, diagram_with, has_helpers, is_above, is_known, is_upward, nothing_drawn, with_edge, with_node, with_terminal}
use Rattle.proof_script.specs.Listing.{Setting}
use Rattle.proof_grammar.specs.Units.{IsFormula, IsHelper, IsNumber, IsTransition}
use Rattle.proof_grammar.specs.Drawings.{IsDrawnNumber, IsNodeRank, IsNodeHelper, IsDrawnNode, IsEdge, IsTerminal, IsItem, AreItems, IsDrawing, drawn_number, new_number, unranked, node_rank, unhelped, node_helper, drawn_node, an_edge, a_terminal, terminal_item, node_item, edge_item, no_further_item, a_further_item, a_drawing}
use Rattle.script_grammar.specs.RawScripts.{RawUnit, RawTransition, RawNumber, RawDrawnNode, RawEdge, RawItem, raw_terminal, raw_node, raw_edge, RawDrawing}
use Rattle.script_grammar.specs.Sizes.{transition_size, optional_size, unit_size, drawn_node_size, item_size, drawing_size}
use Rattle.script_grammar.specs.Drawings.{IsUnit, IsReference, IsNumeral, IsRawEdge, IsRawTerminal, IsRawRank, IsRawHelper, IsRawDrawnNode, IsRawItem, IsRawDrawing, spells_numeral, spells_edge, spells_terminal, spells_no_rank, spells_rank, spells_no_helper, spells_helper, spells_drawn_node, spells_terminal_item, spells_node_item, spells_edge_item, spells_drawing}
use Rattle.script_grammar.specs.Meaning.{form_meant, sum_meant, transition_meant, drawn_node_meant, edge_meant, item_drawn, items_drawn, drawing_meant}
use Rattle.script_grammar.specs.Breaking.{optional_rules}
use Rattle.script_grammar.specs.Rules.{known_rules, form_rules, sum_rules, helper_rules, transition_rules, drawn_node_rules, edge_rules, terminal_rules, item_rules, items_rules, drawing_rules}
use Rattle.script_grammar.specs.Theorems.{Forms, Sums}
use Rattle.script_grammar.proofs.Unbroken.{none_broken, both_kept, not_broken, is_kept, is_there, not_true, same2, same3}
use Rattle.script_grammar.proofs.Trees.{Tree, after_tree, row_tree, after_lawful, row_lawful}
use Rattle.script_grammar.proofs.Units.{form_tree, form_lawful, sum_tree, sum_lawful, transition_tree, transition_lawful, helper_tree, helper_lawful}

is_less : (n m : ℕ) → nat_lt n m ≡ true → n < m
is_less n m h = grind (arith, nat_tests)

less_is : (n m : ℕ) → n < m → nat_lt n m ≡ true
less_is n m h = grind (arith, nat_tests)

and_false : (b : Bool) → (b && false) ≡ false
and_false true = refl
and_false false = refl

and_true : (b : Bool) → (b && true) ≡ false → b ≡ false
and_true true h = absurd cc
and_true false h = refl

not_there : {A : Type 0} (o : Option A) → is_some o ≡ false → o ≡ None
not_there None h = refl
not_there (Some x) h = absurd cc

-- WHAT IS MADE OF ITS PARTS
abbrev make_drawn : ℕ → Formula → Option Linear → Option ℕ → PlainDrawnNode
make_drawn n f r h = record { number = n; form = f; rank = r; helper = h }

abbrev make_edge : ℕ → ℕ → List ℕ → PlainEdge
make_edge i j on = record { from = i; to = j; on = on }

-- NUMBERS OF NODES
module _ (nodes : List PlainDrawnNode) where
  abbrev number_meant : RawNumber → ℕ
  number_meant r = r.number

  known_tree : (ts : List Lexeme) (n : ℕ) → IsDrawnNumber nodes ts n → Tree IsNumeral (known_rules nodes) number_meant ts n
  known_tree ts n (drawn_number t m e k) = record { raw = record { number = m; place = t.start }; spells = spells_numeral t m e; lawful = λ at. not_broken (not (is_known m nodes)) (at + 1) (broke rules.UnknownNode t.start) (ap not k); means = refl }

  known_lawful : (ts : List Lexeme) (r : RawNumber) (at : ℕ) → IsNumeral ts r → known_rules nodes at r ≡ [] → IsDrawnNumber nodes ts (number_meant r)
  known_lawful ts r at (spells_numeral t m e) h = drawn_number t m e (not_true (is_known m nodes) (is_kept (not (is_known m nodes)) (at + 1) (broke rules.UnknownNode t.start) h))

module _ (g : Setting) (kind : DiagramKind) (highest : ℕ) where
  -- NODES
  rank_tree : (ts : List Lexeme) (r : Option Linear) → IsNodeRank g kind highest ts r → Tree (IsRawRank Forms Sums kind) (optional_rules (sum_rules g)) (option_map (sum_meant g)) ts r
  rank_tree ts r (unranked e) = record { raw = None; spells = spells_no_rank e; lawful = λ at. refl; means = refl }
  rank_tree ts r (node_rank us x e l) =
      let p = after_tree (IsNumber g) (IsUnit Sums) (sum_rules g) (sum_meant g) (sum_tree g) marks.Rank us x l in
      record { raw = Some p.raw; spells = spells_rank us p.raw e p.spells; lawful = λ at. p.lawful (at + 1); means = ap Some p.means }

  rank_lawful : (ts : List Lexeme) (r : Option RawUnit) (at : ℕ) → IsRawRank Forms Sums kind ts r → optional_rules (sum_rules g) at r ≡ [] → IsNodeRank g kind highest ts (option_map (sum_meant g) r)
  rank_lawful ts r at (spells_no_rank e) h = unranked e
  rank_lawful ts r at (spells_rank us x e l) h = node_rank us (sum_meant g x) e (after_lawful (IsNumber g) (IsUnit Sums) (sum_rules g) (sum_meant g) (sum_lawful g) marks.Rank us x (at + 1) l h)

  -- with a helper where the kind has them
  abbrev HelpedTree : List Lexeme → Option ℕ → Type 0
  HelpedTree ts h = (t : Tree (IsRawHelper Forms Sums kind) (optional_rules (helper_rules g)) (option_map (transition_meant g)) ts h) × ((has_helpers kind && is_none t.raw) ≡ false)

  node_helper_tree : (ts : List Lexeme) (h : Option ℕ) → IsNodeHelper g kind highest ts h → HelpedTree ts h
  node_helper_tree ts h (unhelped e) = (record { raw = None; spells = spells_no_helper; lawful = λ at. refl; means = refl }, ap (λ b. b && true) e)
  node_helper_tree ts h (node_helper us x e l) =
      let p = after_tree (IsHelper g) IsReference (helper_rules g) (transition_meant g) (helper_tree g) marks.Helper us x l in
      (record { raw = Some p.raw; spells = spells_helper us p.raw e p.spells; lawful = λ at. p.lawful (at + 1); means = ap Some p.means }, and_false (has_helpers kind))

  node_helper_lawful : (ts : List Lexeme) (r : Option RawTransition) (at : ℕ) → IsRawHelper Forms Sums kind ts r → optional_rules (helper_rules g) at r ≡ [] → (has_helpers kind && is_none r) ≡ false → IsNodeHelper g kind highest ts (option_map (transition_meant g) r)
  node_helper_lawful ts r at spells_no_helper h k = unhelped (and_true (has_helpers kind) k)
  node_helper_lawful ts r at (spells_helper us x e l) h k = node_helper us (transition_meant g x) e (after_lawful (IsHelper g) IsReference (helper_rules g) (transition_meant g) (helper_lawful g) marks.Helper us x (at + 1) l h)

  module _ (d : Drawing) (place : ℕ) where
    drawn_node_tree : (ts : List Lexeme) (n : PlainDrawnNode) → length d.nodes < 64 → IsDrawnNode g kind highest d.nodes ts n → Tree (IsRawDrawnNode Forms Sums kind) (drawn_node_rules g kind highest d place) (drawn_node_meant g) ts n
    drawn_node_tree ts n few (drawn_node a b c e u m f r h (new_number t k is new low) lf lr lh z) =
        let p = after_tree (IsFormula g) (IsUnit Forms) (form_rules g) (form_meant g) (form_tree g) marks.Colon b f lf in
        let q = rank_tree c r lr in
        let w = node_helper_tree e h lh in
        let number : RawNumber = record { number = k; place = t.start } in
        let raw : RawDrawnNode = record { number = number; form = p.raw; rank = q.raw; helper = w.0.raw } in
        record {
          raw = raw;
          spells = spells_drawn_node a b c e u number p.raw q.raw w.0.raw (spells_numeral t k is) p.spells q.spells w.0.spells z;
          lawful = λ at. none_broken (not_broken (not (nat_lt (length d.nodes) 64)) at (limited limits.Nodes place) (ap not (less_is (length d.nodes) 64 few)))
              (none_broken (not_broken (is_known k d.nodes) (at + 1) (broke rules.Twice t.start) new)
              (none_broken (not_broken (is_above kind highest k) (at + 1) (broke rules.UnknownNode t.start) low)
              (none_broken (p.lawful (at + 2))
              (none_broken (q.lawful (at + 2 + p.raw.size))
              (none_broken (w.0.lawful (at + 2 + p.raw.size + optional_size unit_size q.raw))
              (not_broken (has_helpers kind && is_none w.0.raw) (at + drawn_node_size raw) (broke rules.NoHelper t.start) w.1))))));
          means = same3 (make_drawn k) p.means q.means w.0.means;
        }

    drawn_node_lawful : (ts : List Lexeme) (n : RawDrawnNode) (at : ℕ) → IsRawDrawnNode Forms Sums kind ts n → drawn_node_rules g kind highest d place at n ≡ [] → (length d.nodes < 64) × IsDrawnNode g kind highest d.nodes ts (drawn_node_meant g n)
    drawn_node_lawful ts n at (spells_drawn_node a b c e u m f r h (spells_numeral t k is) lf lr lh z) kept =
        let k1 = both_kept _ _ kept in
        let k2 = both_kept _ _ k1.1 in
        let k3 = both_kept _ _ k2.1 in
        let k4 = both_kept _ _ k3.1 in
        let k5 = both_kept _ _ k4.1 in
        let k6 = both_kept _ _ k5.1 in (
          is_less (length d.nodes) 64 (not_true (nat_lt (length d.nodes) 64) (is_kept _ _ _ k1.0)),
          drawn_node a b c e u k (form_meant g f) (option_map (sum_meant g) r) (option_map (transition_meant g) h) (new_number t k is (is_kept _ _ _ k2.0) (is_kept _ _ _ k3.0))
              (after_lawful (IsFormula g) (IsUnit Forms) (form_rules g) (form_meant g) (form_lawful g) marks.Colon b f (at + 2) lf k4.0)
              (rank_lawful c r (at + 2 + f.size) lr k5.0)
              (node_helper_lawful e h (at + 2 + f.size + optional_size unit_size r) lh k6.0 (is_kept _ _ _ k6.1)) z,
        )

    -- EDGES
    edge_tree : (ts : List Lexeme) (x : PlainEdge) → IsEdge g kind highest d.nodes ts x → Tree IsRawEdge (edge_rules g kind highest d place) (edge_meant g) ts x
    edge_tree ts x (an_edge a b c u i j on li lj up (after_mark t us ns e l) z) =
        let p = known_tree d.nodes a i li in
        let q = after_tree (IsDrawnNumber d.nodes) IsNumeral (known_rules d.nodes) (number_meant d.nodes) (known_tree d.nodes) marks.Implies b j lj in
        let r = row_tree (IsTransition g) IsReference (transition_rules g) (transition_meant g) (transition_tree g) transition_size marks.Comma us ns l in
        record {
          raw = record { from = p.raw; to = q.raw; on = r.raw };
          spells = spells_edge a b (t ∷ us) u p.raw q.raw r.raw p.spells q.spells (after_mark t us r.raw e r.spells) z;
          lawful = λ at. none_broken (p.lawful at) (none_broken (q.lawful (at + 2)) (none_broken (not_broken (is_upward kind p.raw.number q.raw.number) (at + 3) (broke rules.Upward place) (same2 (is_upward kind) p.means q.means ∙ up)) (r.lawful (at + 3))));
          means = same3 make_edge p.means q.means r.means;
        }

    edge_lawful : (ts : List Lexeme) (x : RawEdge) (at : ℕ) → IsRawEdge ts x → edge_rules g kind highest d place at x ≡ [] → IsEdge g kind highest d.nodes ts (edge_meant g x)
    edge_lawful ts x at (spells_edge a b c u i j on li lj (after_mark t us ns e l) z) kept =
        let k1 = both_kept _ _ kept in
        let k2 = both_kept _ _ k1.1 in
        let k3 = both_kept _ _ k2.1 in
        an_edge a b (t ∷ us) u i.number j.number (map (transition_meant g) ns) (known_lawful d.nodes a i at li k1.0)
        (after_lawful (IsDrawnNumber d.nodes) IsNumeral (known_rules d.nodes) (number_meant d.nodes) (known_lawful d.nodes) marks.Implies b j (at + 2) lj k2.0) (is_kept _ _ _ k3.0)
        (after_mark t us (map (transition_meant g) ns) e (row_lawful (IsTransition g) IsReference (transition_rules g) (transition_meant g) (transition_lawful g) transition_size marks.Comma us ns (at + 3) l k3.1)) z

    -- TERMINAL NODES
    terminal_tree : (ts : List Lexeme) (f : Formula) → d.terminal ≡ None → IsTerminal g kind highest ts f → Tree (IsRawTerminal Forms Sums) (terminal_rules g kind highest d place) (form_meant g) ts f
    terminal_tree ts f none (a_terminal a u x l z) =
        let p = after_tree (IsFormula g) (IsUnit Forms) (form_rules g) (form_meant g) (form_tree g) marks.Colon a x l in
        record { raw = p.raw; spells = spells_terminal a u p.raw p.spells z; lawful = λ at. none_broken (not_broken (is_some d.terminal) at (broke rules.Twice place) (ap is_some none)) (p.lawful (at + 1)); means = p.means }

    terminal_lawful : (ts : List Lexeme) (f : RawUnit) (at : ℕ) → IsRawTerminal Forms Sums ts f → terminal_rules g kind highest d place at f ≡ [] → (d.terminal ≡ None) × IsTerminal g kind highest ts (form_meant g f)
    terminal_lawful ts f at (spells_terminal a u x l z) kept =
        let k = both_kept _ _ kept in
        (not_there d.terminal (is_kept _ _ _ k.0), a_terminal a u (form_meant g x) (after_lawful (IsFormula g) (IsUnit Forms) (form_rules g) (form_meant g) (form_lawful g) marks.Colon a x (at + 1) l k.1) z)

  -- ITEMS
  item_tree : (d e : Drawing) (ts : List Lexeme) → IsItem g kind highest d ts e → Tree (IsRawItem Forms Sums kind) (item_rules g kind highest d) (item_drawn g d) ts e
  item_tree d e ts (terminal_item t us f is none l) =
      let p = terminal_tree d t.start us f none l in
      record { raw = raw_terminal t.start p.raw; spells = spells_terminal_item t us p.raw is p.spells; lawful = λ at. p.lawful (at + 1); means = ap (λ x. with_terminal x d) p.means }
  item_tree d e ts (node_item t us n is few l) =
      let p = drawn_node_tree d t.start us n few l in
      record { raw = raw_node t.start p.raw; spells = spells_node_item t us p.raw is p.spells; lawful = λ at. p.lawful (at + 1); means = ap (λ x. with_node x d) p.means }
  item_tree d e ts (edge_item t us x is l) =
      let p = edge_tree d t.start us x l in
      record { raw = raw_edge t.start p.raw; spells = spells_edge_item t us p.raw is p.spells; lawful = λ at. p.lawful (at + 1); means = ap (λ x. with_edge x d) p.means }

  item_lawful : (d : Drawing) (ts : List Lexeme) (r : RawItem) (at : ℕ) → IsRawItem Forms Sums kind ts r → item_rules g kind highest d at r ≡ [] → IsItem g kind highest d ts (item_drawn g d r)
  item_lawful d ts r at (spells_terminal_item t us f is l) h = let k = terminal_lawful d t.start us f (at + 1) l h in terminal_item t us (form_meant g f) is k.0 k.1
  item_lawful d ts r at (spells_node_item t us n is l) h = let k = drawn_node_lawful d t.start us n (at + 1) l h in node_item t us (drawn_node_meant g n) is k.0 k.1
  item_lawful d ts r at (spells_edge_item t us x is l) h = edge_item t us (edge_meant g x) is (edge_lawful d t.start us x (at + 1) l h)

  items_of_drawing : (d z : Drawing) (ts : List Lexeme) → AreItems g kind highest d ts z → Tree (Many (IsRawItem Forms Sums kind)) (items_rules g kind highest d) (items_drawn g d) ts z
  items_of_drawing d z ts (no_further_item x) = record { raw = []; spells = none_more; lawful = λ at. refl; means = refl }
  items_of_drawing d z ts (a_further_item d1 e z1 a b l m) =
      let p = item_tree d1 e a l in
      let q = items_of_drawing e z1 b m in
      record {
        raw = p.raw ∷ q.raw;
        spells = one_more a b p.raw q.raw p.spells q.spells;
        lawful = λ at. none_broken (p.lawful at) (subst (λ v. items_rules g kind highest v (at + item_size p.raw) q.raw ≡ []) (sym p.means) (q.lawful (at + item_size p.raw)));
        means = ap (λ v. items_drawn g v q.raw) p.means ∙ q.means;
      }

  items_are_lawful : (d : Drawing) (ts : List Lexeme) (rs : List RawItem) (at : ℕ) → Many (IsRawItem Forms Sums kind) ts rs → items_rules g kind highest d at rs ≡ [] → AreItems g kind highest d ts (items_drawn g d rs)
  items_are_lawful d ts rs at none_more h = no_further_item d
  items_are_lawful d ts rs at (one_more a b x xs l m) h =
      let k = both_kept _ _ h in
      a_further_item d (item_drawn g d x) (items_drawn g (item_drawn g d x) xs) a b (item_lawful d a x at l k.0) (items_are_lawful (item_drawn g d x) b xs (at + item_size x) m k.1)

  -- DRAWINGS
  pub drawing_tree : (ts : List Lexeme) (x : PlainDiagram) → IsDrawing g kind highest ts x → Tree (IsRawDrawing Forms Sums kind) (drawing_rules g kind highest) (drawing_meant g kind) ts x
  drawing_tree ts x (a_drawing t u a d f e l i k) =
      let q = items_of_drawing nothing_drawn d a l in
      let raw : RawDrawing = record { items = q.raw; close = u.start } in
      record {
        raw = raw;
        spells = spells_drawing t u a q.raw e q.spells i;
        lawful = λ at. none_broken (q.lawful (at + 1)) (not_broken (is_none (items_drawn g nothing_drawn q.raw).terminal) (at + drawing_size raw) (broke rules.NoTerminal u.start) (ap (λ v. is_none v.terminal) q.means ∙ ap is_none k));
        means = ap (λ v. diagram_with kind v (unwrap_or v.terminal (truth_value false))) q.means ∙ ap (λ o. diagram_with kind d (unwrap_or o (truth_value false))) k;
      }

  pub drawing_lawful : (ts : List Lexeme) (r : RawDrawing) (at : ℕ) → IsRawDrawing Forms Sums kind ts r → drawing_rules g kind highest at r ≡ [] → IsDrawing g kind highest ts (drawing_meant g kind r)
  drawing_lawful ts r at (spells_drawing t u a xs e l i) h =
      let k = both_kept _ _ h in
      let d = items_drawn g nothing_drawn xs in
      a_drawing t u a d (unwrap_or d.terminal (truth_value false)) e (items_are_lawful nothing_drawn a xs (at + 1) l k.0) i (is_there (truth_value false) d.terminal (is_kept _ _ _ k.1))
