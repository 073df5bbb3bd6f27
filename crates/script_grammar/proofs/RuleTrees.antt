-- Rules of responses: trees that break no rule are what the grammar with rules spells.
use Rattle.std.proofs.Common.{◌≡◌, ℕ, ◌+◌, ◌&&◌, nat_eq, List, [], ◌∷◌, length, map, Option, Some, None, refl, sym, ap, ◌∙◌, arith}
use Rattle.std.specs.Prelude.{is_none}
use Rattle.std.specs.Option.{option_map}
use Rattle.std.proofs.lemmas.List.{length-map}
use Rattle.st_tokens.specs.Stream.{Lexeme}
use Rattle.st_reading.specs.declared.mark.Mark.{Mark}
use Rattle.st_reading.specs.declared.mark.Mark.TheVariants as marks
use Rattle.st_reading.specs.Rule as rules
use Rattle.st_reading.specs.Breaches.{broke}
use Rattle.st_reading.specs.Phrases.{After, Optional}
use Rattle.st_linear.specs.Linear.{Linear}
use Rattle.st_form.specs.Formula.{Formula}
use Rattle.temporal_goals.specs.Texts.{PlainLevel, PlainNestedNode, PlainNode, PlainRule, diagram, nested, net}
use Rattle.temporal_goals.specs.declared.diagrams.DiagramKind.TheVariants.{Chain, Rank}
use Rattle.response_rules.specs.Forms.{chain_nodes, fair_nodes, ranked_nodes}
use Rattle.proof_script.specs.Listing.{Setting}
use Rattle.proof_grammar.specs.Units.{IsGroup, IsHelper, IsNumber}
use Rattle.proof_grammar.specs.Rules.{IsHelped, IsRanked, IsFairItem, IsNode, IsLevel, IsNestedNode, IsRule, helped, ranked, fair_item, a_node, a_level, a_nested_node, by_just, by_chain, by_ranks, by_compassion, by_net, by_nested_net, by_chain_diagram, by_rank_diagram}
use Rattle.script_grammar.specs.RawScripts.{RawUnit, RawTransition, RawHelped, RawRanked, RawFair, RawNode, RawLevel, RawNestedNode, RawRule, raw_just, raw_chain, raw_ranked, raw_fair, raw_net, raw_nested, raw_diagram}
use Rattle.script_grammar.specs.Sizes.{optional_size, many_size, transition_size, helped_size, ranked_size, fair_size, node_size, level_size, nested_node_size}
use Rattle.script_grammar.specs.Drawings.{IsUnit, IsReference}
use Rattle.script_grammar.specs.Grammar.{IsRawHelped, IsRawRanked, IsRawFair, IsRawNode, IsRawLevel, IsRawNestedNode, IsRawRule, spells_helped, spells_ranked, spells_fair, spells_node, spells_level, spells_nested_node, spells_just, spells_chain, spells_ranks, spells_compassion, spells_net, spells_nested_net, spells_chain_diagram, spells_rank_diagram}
use Rattle.script_grammar.specs.Meaning.{form_meant, sum_meant, transition_meant, helped_meant, ranked_meant, fair_meant, node_meant, level_meant, nested_node_meant, rule_meant, drawing_meant}
use Rattle.script_grammar.specs.Breaking.{optional_rules}
use Rattle.script_grammar.specs.Rules.{sum_rules, helper_rules, group_rules, helped_rules, ranked_rules, fair_rules, node_rules, level_rules, nested_node_rules, rule_rules}
use Rattle.script_grammar.specs.Theorems.{Forms, Sums}
use Rattle.script_grammar.proofs.Unbroken.{none_broken, both_kept, not_broken, is_kept, same2, same3, same4}
use Rattle.script_grammar.proofs.Trees.{Tree, after_tree, optional_tree, many_tree, brackets_tree, as_many, after_lawful, optional_lawful, many_lawful, brackets_lawful}
use Rattle.script_grammar.proofs.Units.{form_tree, form_lawful, sum_tree, sum_lawful, helper_tree, helper_lawful, group_tree, group_lawful}
use Rattle.script_grammar.proofs.DrawnTrees.{drawing_tree, drawing_lawful}

-- an option is left out where what it means is
same_none : {A B : Type 0} (f : A → B) (o : Option A) → is_none (option_map f o) ≡ is_none o
same_none f None = refl
same_none f (Some x) = refl

left_out_so : {A B : Type 0} (f : A → B) (o : Option A) (x : Option B) → option_map f o ≡ x → is_none o ≡ is_none x
left_out_so f o x e = sym (same_none f o) ∙ ap is_none e

-- WHAT IS MADE OF ITS PARTS
abbrev pair : {A B : Type 0} → A → B → A × B
pair x y = (x, y)

abbrev triple : Formula → Linear → ℕ → Formula × Linear × ℕ
triple f e h = (f, e, h)

abbrev make_node : Formula → Linear → Linear → Linear → Option ℕ → Option ℕ → PlainNode
make_node f base delay top group helper = record { form = f; base = base; delay = delay; top = top; group = group; helper = helper }

abbrev make_level : Linear → Linear → ℕ → PlainLevel
make_level base top group = record { base = base; top = top; group = group }

abbrev make_nested : Formula → List PlainLevel → Linear → Option ℕ → PlainNestedNode
make_nested f ls delay helper = record { form = f; levels = ls; delay = delay; helper = helper }

module _ (g : Setting) where
  -- WHAT STANDS BEHIND A MARK
  abbrev sum_behind : (mark : Mark) (ts : List Lexeme) (x : Linear) → After mark (IsNumber g) ts x → Tree (After mark (IsUnit Sums)) (sum_rules g) (sum_meant g) ts x
  sum_behind = after_tree (IsNumber g) (IsUnit Sums) (sum_rules g) (sum_meant g) (sum_tree g)

  abbrev sum_behind_lawful : (mark : Mark) (ts : List Lexeme) (r : RawUnit) (at : ℕ) → After mark (IsUnit Sums) ts r → sum_rules g at r ≡ [] → After mark (IsNumber g) ts (sum_meant g r)
  sum_behind_lawful = after_lawful (IsNumber g) (IsUnit Sums) (sum_rules g) (sum_meant g) (sum_lawful g)

  abbrev helper_behind : (mark : Mark) (ts : List Lexeme) (x : ℕ) → After mark (IsHelper g) ts x → Tree (After mark IsReference) (helper_rules g) (transition_meant g) ts x
  helper_behind = after_tree (IsHelper g) IsReference (helper_rules g) (transition_meant g) (helper_tree g)

  abbrev helper_behind_lawful : (mark : Mark) (ts : List Lexeme) (r : RawTransition) (at : ℕ) → After mark IsReference ts r → helper_rules g at r ≡ [] → After mark (IsHelper g) ts (transition_meant g r)
  helper_behind_lawful = after_lawful (IsHelper g) IsReference (helper_rules g) (transition_meant g) (helper_lawful g)

  abbrev maybe_helper : (mark : Mark) (ts : List Lexeme) (x : Option ℕ) → Optional mark (IsHelper g) ts x → Tree (Optional mark IsReference) (optional_rules (helper_rules g)) (option_map (transition_meant g)) ts x
  maybe_helper = optional_tree (IsHelper g) IsReference (helper_rules g) (transition_meant g) (helper_tree g)

  abbrev maybe_helper_lawful : (mark : Mark) (ts : List Lexeme) (r : Option RawTransition) (at : ℕ) → Optional mark IsReference ts r → optional_rules (helper_rules g) at r ≡ [] → Optional mark (IsHelper g) ts (option_map (transition_meant g) r)
  maybe_helper_lawful = optional_lawful (IsHelper g) IsReference (helper_rules g) (transition_meant g) (helper_lawful g)

  -- ITEMS
  helped_tree : (ts : List Lexeme) (x : Formula × ℕ) → IsHelped g ts x → Tree (IsRawHelped Forms Sums) (helped_rules g) (helped_meant g) ts x
  helped_tree ts x (helped a b f h l m) =
      let p = form_tree g a f l in
      let q = helper_behind marks.Helper b h m in
      record { raw = record { form = p.raw; helper = q.raw }; spells = spells_helped a b p.raw q.raw p.spells q.spells; lawful = λ at. none_broken (p.lawful at) (q.lawful (at + p.raw.size + 1)); means = same2 pair p.means q.means }

  helped_lawful : (ts : List Lexeme) (r : RawHelped) (at : ℕ) → IsRawHelped Forms Sums ts r → helped_rules g at r ≡ [] → IsHelped g ts (helped_meant g r)
  helped_lawful ts r at (spells_helped a b f h l m) kept =
      let k = both_kept _ _ kept in
      helped a b (form_meant g f) (transition_meant g h) (form_lawful g a f at l k.0) (helper_behind_lawful marks.Helper b h (at + f.size + 1) m k.1)

  ranked_tree : (ts : List Lexeme) (x : Formula × Linear × ℕ) → IsRanked g ts x → Tree (IsRawRanked Forms Sums) (ranked_rules g) (ranked_meant g) ts x
  ranked_tree ts x (ranked a b c f e h l m n) =
      let p = form_tree g a f l in
      let q = sum_behind marks.Rank b e m in
      let r = helper_behind marks.Helper c h n in
      record {
        raw = record { form = p.raw; rank = q.raw; helper = r.raw };
        spells = spells_ranked a b c p.raw q.raw r.raw p.spells q.spells r.spells;
        lawful = λ at. none_broken (p.lawful at) (none_broken (q.lawful (at + p.raw.size + 1)) (r.lawful (at + p.raw.size + (1 + q.raw.size) + 1)));
        means = same3 triple p.means q.means r.means;
      }

  ranked_lawful : (ts : List Lexeme) (r : RawRanked) (at : ℕ) → IsRawRanked Forms Sums ts r → ranked_rules g at r ≡ [] → IsRanked g ts (ranked_meant g r)
  ranked_lawful ts r at (spells_ranked a b c f e h l m n) kept =
      let k = both_kept _ _ kept in
      let k2 = both_kept _ _ k.1 in
      ranked a b c (form_meant g f) (sum_meant g e) (transition_meant g h) (form_lawful g a f at l k.0) (sum_behind_lawful marks.Rank b e (at + f.size + 1) m k2.0) (helper_behind_lawful marks.Helper c h (at + f.size + (1 + e.size) + 1) n k2.1)

  fair_tree : (ts : List Lexeme) (x : Formula × Option ℕ) → IsFairItem g ts x → Tree (IsRawFair Forms Sums) (fair_rules g) (fair_meant g) ts x
  fair_tree ts x (fair_item a b f h l m) =
      let p = form_tree g a f l in
      let q = maybe_helper marks.Helper b h m in
      record { raw = record { form = p.raw; helper = q.raw }; spells = spells_fair a b p.raw q.raw p.spells q.spells; lawful = λ at. none_broken (p.lawful at) (q.lawful (at + p.raw.size)); means = same2 pair p.means q.means }

  fair_lawful : (ts : List Lexeme) (r : RawFair) (at : ℕ) → IsRawFair Forms Sums ts r → fair_rules g at r ≡ [] → IsFairItem g ts (fair_meant g r)
  fair_lawful ts r at (spells_fair a b f h l m) kept =
      let k = both_kept _ _ kept in
      fair_item a b (form_meant g f) (option_map (transition_meant g) h) (form_lawful g a f at l k.0) (maybe_helper_lawful marks.Helper b h (at + f.size) m k.1)

  -- NODES
  node_tree : (ts : List Lexeme) (x : PlainNode) → IsNode g ts x → Tree (IsRawNode Forms Sums) (node_rules g) (node_meant g) ts x
  node_tree ts x (a_node a b c d e k f base delay top group helper lf lb ld lt lg lh one) =
      let p = form_tree g a f lf in
      let q = sum_behind marks.Base b base lb in
      let r = sum_behind marks.Delay c delay ld in
      let s = sum_behind marks.Top d top lt in
      let v = optional_tree (IsGroup g) IsReference (group_rules g) (transition_meant g) (group_tree g) marks.Group e group lg in
      let w = maybe_helper marks.Helper k helper lh in
      let raw : RawNode = record { form = p.raw; base = q.raw; delay = r.raw; top = s.raw; group = v.raw; helper = w.raw } in
      record {
        raw = raw;
        spells = spells_node a b c d e k p.raw q.raw r.raw s.raw v.raw w.raw p.spells q.spells r.spells s.spells v.spells w.spells;
        lawful = λ at. none_broken (p.lawful at)
            (none_broken (q.lawful (at + p.raw.size + 1))
            (none_broken (r.lawful (at + p.raw.size + (1 + q.raw.size) + 1))
            (none_broken (s.lawful (at + p.raw.size + (1 + q.raw.size) + (1 + r.raw.size) + 1))
            (none_broken (v.lawful (at + p.raw.size + (1 + q.raw.size) + (1 + r.raw.size) + (1 + s.raw.size)))
            (none_broken (w.lawful (at + p.raw.size + (1 + q.raw.size) + (1 + r.raw.size) + (1 + s.raw.size) + optional_size transition_size v.raw))
            (not_broken (is_none v.raw && is_none w.raw) (at + node_size raw + 1) (broke rules.NoHelper p.raw.place) (same2 (λ x y. x && y) (left_out_so (transition_meant g) v.raw group v.means) (left_out_so (transition_meant g) w.raw helper w.means) ∙ one)))))));
        means = same4 (λ x y z u. make_node x y z u (option_map (transition_meant g) v.raw) (option_map (transition_meant g) w.raw)) p.means q.means r.means s.means ∙ same2 (make_node f base delay top) v.means w.means;
      }

  node_lawful : (ts : List Lexeme) (r : RawNode) (at : ℕ) → IsRawNode Forms Sums ts r → node_rules g at r ≡ [] → IsNode g ts (node_meant g r)
  node_lawful ts r at (spells_node a b c d e k f base delay top group helper lf lb ld lt lg lh) kept =
      let k1 = both_kept _ _ kept in
      let k2 = both_kept _ _ k1.1 in
      let k3 = both_kept _ _ k2.1 in
      let k4 = both_kept _ _ k3.1 in
      let k5 = both_kept _ _ k4.1 in
      let k6 = both_kept _ _ k5.1 in
      a_node a b c d e k (form_meant g f) (sum_meant g base) (sum_meant g delay) (sum_meant g top) (option_map (transition_meant g) group) (option_map (transition_meant g) helper)
      (form_lawful g a f at lf k1.0)
      (sum_behind_lawful marks.Base b base (at + f.size + 1) lb k2.0)
      (sum_behind_lawful marks.Delay c delay (at + f.size + (1 + base.size) + 1) ld k3.0)
      (sum_behind_lawful marks.Top d top (at + f.size + (1 + base.size) + (1 + delay.size) + 1) lt k4.0)
      (optional_lawful (IsGroup g) IsReference (group_rules g) (transition_meant g) (group_lawful g) marks.Group e group (at + f.size + (1 + base.size) + (1 + delay.size) + (1 + top.size)) lg k5.0)
      (maybe_helper_lawful marks.Helper k helper (at + f.size + (1 + base.size) + (1 + delay.size) + (1 + top.size) + optional_size transition_size group) lh k6.0)
      (same2 (λ x y. x && y) (same_none (transition_meant g) group) (same_none (transition_meant g) helper) ∙ is_kept _ _ _ k6.1)

  -- NODES IN GROUPS
  level_tree : (ts : List Lexeme) (x : PlainLevel) → IsLevel g ts x → Tree (IsRawLevel Forms Sums) (level_rules g) (level_meant g) ts x
  level_tree ts x (a_level a b c base top group l m n) =
      let p = sum_behind marks.Base a base l in
      let q = sum_behind marks.Top b top m in
      let r = after_tree (IsGroup g) IsReference (group_rules g) (transition_meant g) (group_tree g) marks.Group c group n in
      record {
        raw = record { base = p.raw; top = q.raw; group = r.raw };
        spells = spells_level a b c p.raw q.raw r.raw p.spells q.spells r.spells;
        lawful = λ at. none_broken (p.lawful (at + 1)) (none_broken (q.lawful (at + (1 + p.raw.size) + 1)) (r.lawful (at + (1 + p.raw.size) + (1 + q.raw.size) + 1)));
        means = same3 make_level p.means q.means r.means;
      }

  level_lawful : (ts : List Lexeme) (r : RawLevel) (at : ℕ) → IsRawLevel Forms Sums ts r → level_rules g at r ≡ [] → IsLevel g ts (level_meant g r)
  level_lawful ts r at (spells_level a b c base top group l m n) kept =
      let k = both_kept _ _ kept in
      let k2 = both_kept _ _ k.1 in
      a_level a b c (sum_meant g base) (sum_meant g top) (transition_meant g group) (sum_behind_lawful marks.Base a base (at + 1) l k.0) (sum_behind_lawful marks.Top b top (at + (1 + base.size) + 1) m k2.0)
      (after_lawful (IsGroup g) IsReference (group_rules g) (transition_meant g) (group_lawful g) marks.Group c group (at + (1 + base.size) + (1 + top.size) + 1) n k2.1)

  nested_node_tree : (ts : List Lexeme) (x : PlainNestedNode) → IsNestedNode g ts x → Tree (IsRawNestedNode Forms Sums) (nested_node_rules g) (nested_node_meant g) ts x
  nested_node_tree ts x (a_nested_node a b c d f ls delay helper lf ll four ld lh one) =
      let p = form_tree g a f lf in
      let q = many_tree (IsLevel g) (IsRawLevel Forms Sums) (level_rules g) (level_meant g) level_tree level_size b ls ll in
      let r = sum_behind marks.Delay c delay ld in
      let w = maybe_helper marks.Helper d helper lh in
      let n : length q.raw ≡ length ls = as_many (IsLevel g) (IsRawLevel Forms Sums) (level_rules g) (level_meant g) level_tree level_size q.raw ls q.means in
      let raw : RawNestedNode = record { form = p.raw; levels = q.raw; delay = r.raw; helper = w.raw } in
      record {
        raw = raw;
        spells = spells_nested_node a b c d p.raw q.raw r.raw w.raw p.spells q.spells (omega (arith, n, four)) r.spells w.spells;
        lawful = λ at. none_broken (p.lawful at)
            (none_broken (q.lawful (at + p.raw.size))
            (none_broken (r.lawful (at + p.raw.size + many_size level_size q.raw + 1))
            (none_broken (w.lawful (at + p.raw.size + many_size level_size q.raw + (1 + r.raw.size)))
            (not_broken (nat_eq (length q.raw) 0 && is_none w.raw) (at + nested_node_size raw + 1) (broke rules.NoHelper p.raw.place) (same2 (λ x y. nat_eq x 0 && y) n (left_out_so (transition_meant g) w.raw helper w.means) ∙ one)))));
        means = same4 make_nested p.means q.means r.means w.means;
      }

  nested_node_lawful : (ts : List Lexeme) (r : RawNestedNode) (at : ℕ) → IsRawNestedNode Forms Sums ts r → nested_node_rules g at r ≡ [] → IsNestedNode g ts (nested_node_meant g r)
  nested_node_lawful ts r at (spells_nested_node a b c d f ls delay helper lf ll four ld lh) kept =
      let k1 = both_kept _ _ kept in
      let k2 = both_kept _ _ k1.1 in
      let k3 = both_kept _ _ k2.1 in
      let k4 = both_kept _ _ k3.1 in
      let n : length (map (level_meant g) ls) ≡ length ls = length-map ls (level_meant g) in
      a_nested_node a b c d (form_meant g f) (map (level_meant g) ls) (sum_meant g delay) (option_map (transition_meant g) helper)
      (form_lawful g a f at lf k1.0)
      (many_lawful (IsLevel g) (IsRawLevel Forms Sums) (level_rules g) (level_meant g) level_lawful level_size b ls (at + f.size) ll k2.0) (omega (arith, n, four))
      (sum_behind_lawful marks.Delay c delay (at + f.size + many_size level_size ls + 1) ld k3.0)
      (maybe_helper_lawful marks.Helper d helper (at + f.size + many_size level_size ls + (1 + delay.size)) lh k4.0)
      (same2 (λ x y. nat_eq x 0 && y) n (same_none (transition_meant g) helper) ∙ is_kept _ _ _ k4.1)

  -- RULES
  pub rule_tree : (ts : List Lexeme) (x : PlainRule) → IsRule g ts x → Tree (IsRawRule Forms Sums) (rule_rules g) (rule_meant g) ts x
  rule_tree ts x (by_just t us y e l) =
      let p = helped_tree us y l in
      record { raw = raw_just p.raw; spells = spells_just t us p.raw e p.spells; lawful = λ at. p.lawful (at + 1); means = ap (λ z. net (chain_nodes (z ∷ []))) p.means }
  rule_tree ts x (by_chain t us ys e l) =
      let p = brackets_tree (IsHelped g) (IsRawHelped Forms Sums) (helped_rules g) (helped_meant g) helped_tree helped_size (λ z. z.form) us ys l in
      record { raw = raw_chain p.raw; spells = spells_chain t us p.raw e p.spells; lawful = λ at. p.lawful (at + 1); means = ap (λ z. net (chain_nodes z)) p.means }
  rule_tree ts x (by_ranks t us ys e l) =
      let p = brackets_tree (IsRanked g) (IsRawRanked Forms Sums) (ranked_rules g) (ranked_meant g) ranked_tree ranked_size (λ z. z.form) us ys l in
      record { raw = raw_ranked p.raw; spells = spells_ranks t us p.raw e p.spells; lawful = λ at. p.lawful (at + 1); means = ap (λ z. net (ranked_nodes z)) p.means }
  rule_tree ts x (by_compassion t a b c ys e l m) =
      let p = group_tree g a c l in
      let q = brackets_tree (IsFairItem g) (IsRawFair Forms Sums) (fair_rules g) (fair_meant g) fair_tree fair_size (λ z. z.form) b ys m in
      record { raw = raw_fair p.raw q.raw; spells = spells_compassion t a b p.raw q.raw e p.spells q.spells; lawful = λ at. none_broken (p.lawful (at + 1)) (q.lawful (at + 1 + transition_size p.raw)); means = same2 (λ y z. net (fair_nodes y z)) p.means q.means }
  rule_tree ts x (by_net t us ys e l) =
      let p = brackets_tree (IsNode g) (IsRawNode Forms Sums) (node_rules g) (node_meant g) node_tree node_size (λ z. z.form) us ys l in
      record { raw = raw_net p.raw; spells = spells_net t us p.raw e p.spells; lawful = λ at. p.lawful (at + 1); means = ap net p.means }
  rule_tree ts x (by_nested_net t u us ys e f l) =
      let p = brackets_tree (IsNestedNode g) (IsRawNestedNode Forms Sums) (nested_node_rules g) (nested_node_meant g) nested_node_tree nested_node_size (λ z. z.form) us ys l in
      record { raw = raw_nested p.raw; spells = spells_nested_net t u us p.raw e f p.spells; lawful = λ at. p.lawful (at + 2); means = ap nested p.means }
  rule_tree ts x (by_chain_diagram t u us d e f l) =
      let p = drawing_tree g Chain 0 us d l in
      record { raw = raw_diagram Chain p.raw; spells = spells_chain_diagram t u us p.raw e f p.spells; lawful = λ at. p.lawful (at + 2); means = ap diagram p.means }
  rule_tree ts x (by_rank_diagram t u us d e f l) =
      let p = drawing_tree g Rank 0 us d l in
      record { raw = raw_diagram Rank p.raw; spells = spells_rank_diagram t u us p.raw e f p.spells; lawful = λ at. p.lawful (at + 2); means = ap diagram p.means }

  pub rule_lawful : (ts : List Lexeme) (r : RawRule) (at : ℕ) → IsRawRule Forms Sums ts r → rule_rules g at r ≡ [] → IsRule g ts (rule_meant g r)
  rule_lawful ts r at (spells_just t us y e l) h = by_just t us (helped_meant g y) e (helped_lawful us y (at + 1) l h)
  rule_lawful ts r at (spells_chain t us ys e l) h =
      by_chain t us (map (helped_meant g) ys) e (brackets_lawful (IsHelped g) (IsRawHelped Forms Sums) (helped_rules g) (helped_meant g) helped_lawful helped_size (λ z. z.form) us ys (at + 1) l h)
  rule_lawful ts r at (spells_ranks t us ys e l) h =
      by_ranks t us (map (ranked_meant g) ys) e (brackets_lawful (IsRanked g) (IsRawRanked Forms Sums) (ranked_rules g) (ranked_meant g) ranked_lawful ranked_size (λ z. z.form) us ys (at + 1) l h)
  rule_lawful ts r at (spells_compassion t a b c ys e l m) h =
      let k = both_kept _ _ h in
      by_compassion t a b (transition_meant g c) (map (fair_meant g) ys) e (group_lawful g a c (at + 1) l k.0) (brackets_lawful (IsFairItem g) (IsRawFair Forms Sums) (fair_rules g) (fair_meant g) fair_lawful fair_size (λ z. z.form) b ys (at + 1 + transition_size c) m k.1)
  rule_lawful ts r at (spells_net t us ys e l) h =
      by_net t us (map (node_meant g) ys) e (brackets_lawful (IsNode g) (IsRawNode Forms Sums) (node_rules g) (node_meant g) node_lawful node_size (λ z. z.form) us ys (at + 1) l h)
  rule_lawful ts r at (spells_nested_net t u us ys e f l) h =
      by_nested_net t u us (map (nested_node_meant g) ys) e f (brackets_lawful (IsNestedNode g) (IsRawNestedNode Forms Sums) (nested_node_rules g) (nested_node_meant g) nested_node_lawful nested_node_size (λ z. z.form) us ys (at + 2) l h)
  rule_lawful ts r at (spells_chain_diagram t u us d e f l) h = by_chain_diagram t u us (drawing_meant g Chain d) e f (drawing_lawful g Chain 0 us d (at + 2) l h)
  rule_lawful ts r at (spells_rank_diagram t u us d e f l) h = by_rank_diagram t u us (drawing_meant g Rank d) e f (drawing_lawful g Rank 0 us d (at + 2) l h)
