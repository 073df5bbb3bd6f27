-- Goals, steps and scripts: trees that break no rule are what the grammar with rules spells.
use Rattle.std.proofs.Common.{◌≡◌, ℕ, suc, ◌+◌, ◌-◌, ◌≤◌, Bool, false, true, not, nat_eq, List, [], ◌∷◌, ◌++◌, length, map, Option, Some, None, refl, sym, ap, subst, ◌∙◌, arith, append-nil, unwrap_or}
use Rattle.std.specs.Prelude.{if◌then◌else◌, is_some}
use Rattle.std.specs.Option.{option_map}
use Rattle.std.proofs.lemmas.Bool.Decides.{nat_tests}
use Rattle.std.proofs.lemmas.List.{length-map}
use Rattle.st_tokens.specs.Stream.{Lexeme}
use Rattle.st_reading.specs.declared.mark.Mark.{Mark}
use Rattle.st_reading.specs.declared.mark.Mark.TheVariants as marks
use Rattle.st_reading.specs.Rule as rules
use Rattle.st_reading.specs.Breaches.{broke}
use Rattle.st_reading.specs.Reading.{Label, label_of}
use Rattle.st_reading.specs.Spelling.{OneName, one_name}
use Rattle.st_reading.specs.Phrases.{After, after_mark, left_out, put_in, none_more, one_more}
use Rattle.st_form.specs.Formula.{Formula}
use Rattle.st_program.specs.Names.{AreApart, IsNew}
use Rattle.temporal_goals.specs.Texts.{PlainGoal, PlainRule, PlainStep, basic, diagram, invariant, levels, response, stronger, waiting}
use Rattle.temporal_goals.specs.declared.diagrams.DiagramKind.TheVariants.{Wait}
use Rattle.expression_typer.specs.Naming.{is_text}
use Rattle.proof_script.specs.Listing.{Setting}
use Rattle.proof_grammar.specs.Units.{IsCited, IsFormula, IsNewName, IsNumber, cited_name, names_of_steps, new_name}
use Rattle.proof_grammar.specs.Rules.{IsRule}
use Rattle.proof_grammar.specs.Grammar.{IsInvariance, IsWaitingRule, IsWaiting, IsResponse, IsUsing, IsNamed, IsStep, IsScript, by_itself, by_stronger, waiting_goal, by_levels, by_wait_diagram, waits, responds, no_using, using_names, named_step, invariance_step, waiting_step, response_step, no_further_step, a_further_step}
use Rattle.script_grammar.specs.RawScripts.{RawUnit, RawClaim, raw_invariance, raw_waiting, raw_response, RawWaitingRule, raw_levels, raw_wait_diagram, RawStep}
use Rattle.script_grammar.specs.Sizes.{label_size, marked_size, unit_size, claim_size, step_size}
use Rattle.script_grammar.specs.Drawings.{IsUnit}
use Rattle.script_grammar.specs.Grammar.{IsRawWaitingRule, IsRawInvariance, IsRawWaiting, IsRawResponse, IsRawRule, IsRawUsing, IsRawNamed, IsRawStep, IsRawScript, spells_levels, spells_wait_diagram, spells_invariance, spells_waiting, spells_response, cites_none, cites, spells_named, spells_invariance_step, spells_waiting_step, spells_response_step}
use Rattle.script_grammar.specs.Meaning.{number_in, step_called, lemma_called, form_meant, sum_meant, rule_meant, drawing_meant, waiting_rule_meant, claim_meant, cited_meant, step_meant, steps_meant}
use Rattle.script_grammar.specs.Breaking.{marked_rules}
use Rattle.script_grammar.specs.Rules.{name_rules, lemma_rules, cited_rules, form_rules, sum_rules, rule_rules, waiting_rule_rules, claim_rules, step_rules, steps_rules}
use Rattle.script_grammar.specs.Theorems.{Forms, Sums}
use Rattle.script_grammar.proofs.Unbroken.{none_broken, both_kept, not_broken, is_kept, not_true, listed_kept, kept_listed, few_at_first, same2, same3}
use Rattle.script_grammar.proofs.Trees.{Tree, after_tree, items_tree, row_tree, as_many, after_lawful, items_lawful, row_lawful}
use Rattle.script_grammar.proofs.Units.{form_tree, form_lawful, sum_tree, sum_lawful}
use Rattle.script_grammar.proofs.DrawnTrees.{drawing_tree, drawing_lawful}
use Rattle.script_grammar.proofs.RuleTrees.{rule_tree, rule_lawful}
use Rattle.script_grammar.proofs.Callings.{apart_grows, found_is, free_is, is_found, is_free}

is_equal : (n m : ℕ) → n ≡ m → not (nat_eq n m) ≡ false
is_equal n m h = grind (arith, nat_tests)

equal_is : (n m : ℕ) → nat_eq n m ≡ true → n ≡ m
equal_is n m h = grind (arith, nat_tests)

-- WHAT IS MADE OF ITS PARTS
abbrev claimed : PlainGoal → PlainRule → PlainGoal × PlainRule
claimed goal rule = (goal, rule)

abbrev make_stronger : Formula → Formula → PlainGoal × PlainRule
make_stronger p f = (invariant p, stronger f)

abbrev two_more : Formula → Formula → List Formula → List Formula
two_more q r qs = q ∷ r ∷ qs

abbrev make_step : List ℕ → PlainGoal × PlainRule → List ℕ → PlainStep
make_step name x cited = record { name = name; goal = x.0; rule = x.1; cited = cited }

-- NAMES
module _ (before : List PlainStep) where
  abbrev name_meant : Label → List ℕ
  name_meant l = l.text

  name_tree : (ts : List Lexeme) (name : List ℕ) → IsNewName before ts name → Tree OneName (name_rules before) name_meant ts name
  name_tree ts name (new_name t e new) = record { raw = label_of t; spells = one_name t e; lawful = λ at. not_broken (is_some (step_called before t.text)) (at + 1) (broke rules.Twice t.start) (is_free before t.text new); means = refl }

  name_lawful : (ts : List Lexeme) (l : Label) (at : ℕ) → OneName ts l → name_rules before at l ≡ [] → IsNewName before ts (name_meant l)
  name_lawful ts l at (one_name t e) h = new_name t e (free_is before t.text (is_kept (is_some (step_called before t.text)) (at + 1) (broke rules.Twice t.start) h))

  -- what is found, by the name's letters
  abbrev by_text : Bool → List ℕ → Option (ℕ × Bool)
  by_text b name = if b then step_called before name else None

  found_there : (n : ℕ) (l : Label) (o : Option (ℕ × Bool)) → lemma_rules n l o ≡ [] → (e : ℕ × Bool) × (o ≡ Some e) × (e.1 ≡ true)
  found_there n l None h = absurd cc
  found_there n l (Some e) h = (e, refl, not_true e.1 (is_kept (not e.1) n (broke rules.NotInvariant l.place) h))

  text_found : (name : List ℕ) (e : ℕ × Bool) → lemma_called before name ≡ Some e → (is_text name ≡ true) × (step_called before name ≡ Some e)
  text_found name e h = at_text (is_text name) refl h
    where
      at_text : (b : Bool) → b ≡ is_text name → by_text b name ≡ Some e → (is_text name ≡ true) × (step_called before name ≡ Some e)
      at_text true q h = (sym q, h)
      at_text false q h = absurd cc

  cited_tree : AreApart (names_of_steps before) → (ts : List Lexeme) (n : ℕ) → IsCited before ts n → Tree OneName (cited_rules before) (cited_meant before) ts n
  cited_tree apart ts n (cited_name t m e text l) =
      let f : lemma_called before t.text ≡ Some (m, true) = ap (λ b. by_text b t.text) text ∙ is_found before t.text m apart l in
      record { raw = label_of t; spells = one_name t e; lawful = λ at. ap (lemma_rules (at + 1) (label_of t)) f; means = ap (λ o. unwrap_or (option_map number_in o) 0) f }

  cited_lawful : (ts : List Lexeme) (l : Label) (at : ℕ) → OneName ts l → cited_rules before at l ≡ [] → IsCited before ts (cited_meant before l)
  cited_lawful ts l at (one_name t e) h =
      let f = found_there (at + 1) (label_of t) (lemma_called before t.text) h in
      let k = text_found t.text f.0 f.1 in
      subst (λ n. IsCited before (t ∷ []) n) (sym (ap (λ o. unwrap_or (option_map number_in o) 0) f.1)) (cited_name t f.0.0 e k.0 (found_is before t.text f.0 k.1 f.2))

  using_tree : AreApart (names_of_steps before) → (ts : List Lexeme) (ns : List ℕ) → IsUsing before ts ns → Tree IsRawUsing (marked_rules label_size (cited_rules before)) (map (cited_meant before)) ts ns
  using_tree apart ts ns no_using = record { raw = []; spells = cites_none; lawful = λ at. refl; means = refl }
  using_tree apart ts ns (using_names t us ms e l) =
      let p = row_tree (IsCited before) OneName (cited_rules before) (cited_meant before) (cited_tree apart) label_size marks.Comma us ms l in
      record { raw = p.raw; spells = cites t us p.raw e p.spells; lawful = p.lawful; means = p.means }

  using_lawful : (ts : List Lexeme) (ls : List Label) (at : ℕ) → IsRawUsing ts ls → marked_rules label_size (cited_rules before) at ls ≡ [] → IsUsing before ts (map (cited_meant before) ls)
  using_lawful ts ls at cites_none h = no_using
  using_lawful ts ls at (cites t us ms e l) h = using_names t us (map (cited_meant before) ms) e (row_lawful (IsCited before) OneName (cited_rules before) (cited_meant before) cited_lawful label_size marks.Comma us ms at l h)

module _ (g : Setting) where
  abbrev form_behind : (mark : Mark) (ts : List Lexeme) (x : Formula) → After mark (IsFormula g) ts x → Tree (After mark (IsUnit Forms)) (form_rules g) (form_meant g) ts x
  form_behind = after_tree (IsFormula g) (IsUnit Forms) (form_rules g) (form_meant g) (form_tree g)

  abbrev form_behind_lawful : (mark : Mark) (ts : List Lexeme) (r : RawUnit) (at : ℕ) → After mark (IsUnit Forms) ts r → form_rules g at r ≡ [] → After mark (IsFormula g) ts (form_meant g r)
  form_behind_lawful = after_lawful (IsFormula g) (IsUnit Forms) (form_rules g) (form_meant g) (form_lawful g)

  -- INVARIANCES
  invariance_tree : (ts : List Lexeme) (x : PlainGoal × PlainRule) → IsInvariance g ts x → Tree (IsRawInvariance Forms Sums) (claim_rules g) (claim_meant g) ts x
  invariance_tree ts x (by_itself a p l) =
      let q = form_tree g a p l in
      record { raw = raw_invariance q.raw None; spells = subst (λ us. IsRawInvariance Forms Sums us (raw_invariance q.raw None)) (append-nil a) (spells_invariance a [] q.raw None q.spells left_out); lawful = λ at. none_broken (q.lawful at) refl; means = ap (λ z. (invariant z, basic)) q.means }
  invariance_tree ts x (by_stronger a b p f l (after_mark t us y e m)) =
      let q = form_tree g a p l in
      let r = form_tree g us y m in
      record {
        raw = raw_invariance q.raw (Some r.raw);
        spells = spells_invariance a (t ∷ us) q.raw (Some r.raw) q.spells (put_in t us r.raw e r.spells);
        lawful = λ at. none_broken (q.lawful at) (r.lawful (at + q.raw.size + 1));
        means = same2 make_stronger q.means r.means;
      }

  invariance_lawful : (ts : List Lexeme) (r : RawClaim) (at : ℕ) → IsRawInvariance Forms Sums ts r → claim_rules g at r ≡ [] → IsInvariance g ts (claim_meant g r)
  invariance_lawful ts r at (spells_invariance a b p f l left_out) h =
      let k = both_kept _ _ h in
      subst (λ us. IsInvariance g us (invariant (form_meant g p), basic)) (sym (append-nil a)) (by_itself a (form_meant g p) (form_lawful g a p at l k.0))
  invariance_lawful ts r at (spells_invariance a b p f l (put_in t us y e m)) h =
      let k = both_kept _ _ h in
      by_stronger a (t ∷ us) (form_meant g p) (form_meant g y) (form_lawful g a p at l k.0) (after_mark t us (form_meant g y) e (form_lawful g us y (at + p.size + 1) m k.1))

  -- WAITING
  abbrev WaitingRuleTree : ℕ → ℕ → List Lexeme → PlainRule → Type 0
  WaitingRuleTree count place ts x = Tree (IsRawWaitingRule Forms Sums) (waiting_rule_rules g count place) (waiting_rule_meant g) ts x

  waiting_rule_tree : (count place : ℕ) (ts : List Lexeme) (x : PlainRule) → count ≤ 64 → IsWaitingRule g count ts x → WaitingRuleTree count place ts x
  waiting_rule_tree count place ts x few (by_levels us ls l same) =
      let p = row_tree (IsFormula g) (IsUnit Forms) (form_rules g) (form_meant g) (form_tree g) unit_size marks.Comma us ls l in
      let n : length p.raw ≡ length ls = as_many (IsFormula g) (IsUnit Forms) (form_rules g) (form_meant g) (form_tree g) unit_size p.raw ls p.means in
      record {
        raw = raw_levels p.raw;
        spells = spells_levels us p.raw p.spells;
        lawful = λ at. none_broken (listed_kept (λ z. z) unit_size (form_rules g) 0 at p.raw (omega (arith, few, n, same)) (p.lawful at)) (not_broken (not (nat_eq (length p.raw) count)) (at + marked_size unit_size p.raw + 1) (broke rules.WrongCount place) (is_equal (length p.raw) count (n ∙ same)));
        means = ap levels p.means;
      }
  waiting_rule_tree count place ts x few (by_wait_diagram t u us d e f l) =
      let p = drawing_tree g Wait (count - 1) us d l in
      record { raw = raw_wait_diagram p.raw; spells = spells_wait_diagram t u us p.raw e f p.spells; lawful = λ at. p.lawful (at + 3); means = ap diagram p.means }

  waiting_rule_lawful : (count place : ℕ) (ts : List Lexeme) (r : RawWaitingRule) (at : ℕ) → IsRawWaitingRule Forms Sums ts r → waiting_rule_rules g count place at r ≡ [] → IsWaitingRule g count ts (waiting_rule_meant g r)
  waiting_rule_lawful count place ts r at (spells_levels us ls l) h =
      let k = both_kept _ _ h in
      let m = kept_listed (λ z. z) unit_size (form_rules g) 0 at ls few_at_first k.0 in
      by_levels us (map (form_meant g) ls) (row_lawful (IsFormula g) (IsUnit Forms) (form_rules g) (form_meant g) (form_lawful g) unit_size marks.Comma us ls at l m.1) (length-map ls (form_meant g) ∙ equal_is (length ls) count (not_true (nat_eq (length ls) count) (is_kept _ _ _ k.1)))
  waiting_rule_lawful count place ts r at (spells_wait_diagram t u us d e f l) h = by_wait_diagram t u us (drawing_meant g Wait d) e f (drawing_lawful g Wait (count - 1) us d (at + 3) l h)

  waiting_tree : (ts : List Lexeme) (x : PlainGoal × PlainRule) → IsWaiting g ts x → Tree (IsRawWaiting Forms Sums) (claim_rules g) (claim_meant g) ts x
  waiting_tree ts x (waits ab e w y (waiting_goal a b c d p q r qs lp lq lr ls few) (after_mark t us z i m)) =
      let vp = form_tree g a p lp in
      let vq = form_behind marks.Unless b q lq in
      let vr = form_behind marks.Wait c r lr in
      let vs = items_tree (IsFormula g) (IsUnit Forms) (form_rules g) (form_meant g) (form_tree g) unit_size marks.Wait d qs ls in
      let n : length vs.raw ≡ length qs = as_many (IsFormula g) (IsUnit Forms) (form_rules g) (form_meant g) (form_tree g) unit_size vs.raw qs vs.means in
      let v = waiting_rule_tree (length (q ∷ r ∷ qs)) t.start us z few m in
      let forms : List RawUnit = vq.raw ∷ vr.raw ∷ vs.raw in
      let count : length (q ∷ r ∷ qs) ≡ length forms = ap (λ k. suc (suc k)) (sym n) in
      record {
        raw = raw_waiting vp.raw forms t.start v.raw;
        spells = spells_waiting a b c d us t vp.raw vq.raw vr.raw vs.raw v.raw vp.spells vq.spells vr.spells vs.spells i v.spells;
        lawful = λ at. none_broken (vp.lawful at)
            (none_broken
            (listed_kept (λ u. u) unit_size (form_rules g) 0 (at + vp.raw.size) forms (omega (arith, few, n))
            (none_broken (vq.lawful (at + vp.raw.size + 1)) (none_broken (vr.lawful (at + vp.raw.size + (1 + vq.raw.size) + 1)) (vs.lawful (at + vp.raw.size + (1 + vq.raw.size) + (1 + vr.raw.size))))))
            (subst (λ k. waiting_rule_rules g k t.start (at + vp.raw.size + marked_size unit_size forms) v.raw ≡ []) count (v.lawful (at + vp.raw.size + marked_size unit_size forms))));
        means = same2 claimed (same2 waiting vp.means (same3 two_more vq.means vr.means vs.means)) v.means;
      }

  waiting_lawful : (ts : List Lexeme) (r : RawClaim) (at : ℕ) → IsRawWaiting Forms Sums ts r → claim_rules g at r ≡ [] → IsWaiting g ts (claim_meant g r)
  waiting_lawful ts r at (spells_waiting a b c d e t p q r2 qs x lp lq lr ls i m) h =
      let k = both_kept _ _ h in
      let k2 = both_kept _ _ k.1 in
      let forms : List RawUnit = q ∷ r2 ∷ qs in
      let k3 = kept_listed (λ u. u) unit_size (form_rules g) 0 (at + p.size) forms few_at_first k2.0 in
      let few = k3.0 in
      let k4 = both_kept _ _ k3.1 in
      let k5 = both_kept _ _ k4.1 in
      let n : length (map (form_meant g) qs) ≡ length qs = length-map qs (form_meant g) in
      let count : length forms ≡ length (map (form_meant g) forms) = sym (length-map forms (form_meant g)) in
      waits (a ++ (b ++ (c ++ d))) (t ∷ e) (form_meant g p, map (form_meant g) forms) (waiting_rule_meant g x)
      (waiting_goal a b c d (form_meant g p) (form_meant g q) (form_meant g r2) (map (form_meant g) qs) (form_lawful g a p at lp k.0)
      (form_behind_lawful marks.Unless b q (at + p.size + 1) lq k4.0) (form_behind_lawful marks.Wait c r2 (at + p.size + (1 + q.size) + 1) lr k5.0)
      (items_lawful (IsFormula g) (IsUnit Forms) (form_rules g) (form_meant g) (form_lawful g) unit_size marks.Wait d qs (at + p.size + (1 + q.size) + (1 + r2.size)) ls k5.1) (omega (arith, few, n)))
      (after_mark t e (waiting_rule_meant g x) i (subst (λ z. IsWaitingRule g z e (waiting_rule_meant g x)) count (waiting_rule_lawful (length forms) t.start e x (at + p.size + marked_size unit_size forms) m k2.1)))

  -- RESPONSES
  response_tree : (ts : List Lexeme) (x : PlainGoal × PlainRule) → IsResponse g ts x → Tree (IsRawResponse Forms Sums) (claim_rules g) (claim_meant g) ts x
  response_tree ts x (responds a b c d p q e y lp lq le ly) =
      let vp = form_tree g a p lp in
      let vq = form_behind marks.Leads b q lq in
      let ve = after_tree (IsNumber g) (IsUnit Sums) (sum_rules g) (sum_meant g) (sum_tree g) marks.Within c e le in
      let vy = after_tree (IsRule g) (IsRawRule Forms Sums) (rule_rules g) (rule_meant g) (rule_tree g) marks.By d y ly in
      record {
        raw = raw_response vp.raw vq.raw ve.raw vy.raw;
        spells = spells_response a b c d vp.raw vq.raw ve.raw vy.raw vp.spells vq.spells ve.spells vy.spells;
        lawful = λ at. none_broken (vp.lawful at) (none_broken (vq.lawful (at + vp.raw.size + 1)) (none_broken (ve.lawful (at + vp.raw.size + (1 + vq.raw.size) + 1)) (vy.lawful (at + vp.raw.size + (1 + vq.raw.size) + (1 + ve.raw.size) + 1))));
        means = same2 claimed (same3 response vp.means vq.means ve.means) vy.means;
      }

  response_lawful : (ts : List Lexeme) (r : RawClaim) (at : ℕ) → IsRawResponse Forms Sums ts r → claim_rules g at r ≡ [] → IsResponse g ts (claim_meant g r)
  response_lawful ts r at (spells_response a b c d p q e y lp lq le ly) h =
      let k = both_kept _ _ h in
      let k2 = both_kept _ _ k.1 in
      let k3 = both_kept _ _ k2.1 in
      responds a b c d (form_meant g p) (form_meant g q) (sum_meant g e) (rule_meant g y) (form_lawful g a p at lp k.0) (form_behind_lawful marks.Leads b q (at + p.size + 1) lq k2.0)
      (after_lawful (IsNumber g) (IsUnit Sums) (sum_rules g) (sum_meant g) (sum_lawful g) marks.Within c e (at + p.size + (1 + q.size) + 1) le k3.0)
      (after_lawful (IsRule g) (IsRawRule Forms Sums) (rule_rules g) (rule_meant g) (rule_lawful g) marks.By d y (at + p.size + (1 + q.size) + (1 + e.size) + 1) ly k3.1)

  -- STEPS
  module _ (before : List PlainStep) (claim : List Lexeme → PlainGoal × PlainRule → Type 0) (Raw : List Lexeme → RawClaim → Type 0) where
    named_tree : AreApart (names_of_steps before) → ((ts : List Lexeme) (x : PlainGoal × PlainRule) → claim ts x → Tree Raw (claim_rules g) (claim_meant g) ts x)
        → (ts : List Lexeme) (s : PlainStep) → IsNamed claim before ts s → Tree (IsRawNamed Raw) (step_rules g before) (step_meant g before) ts s
    named_tree apart tree ts s (named_step a b c u name x cited l m n z) =
        let p = name_tree before a name l in
        let q = after_tree claim Raw (claim_rules g) (claim_meant g) tree marks.Colon b x m in
        let r = using_tree before apart c cited n in
        record {
          raw = record { name = p.raw; claim = q.raw; cited = r.raw };
          spells = spells_named a b c u p.raw q.raw r.raw p.spells q.spells r.spells z;
          lawful = λ at. none_broken (p.lawful (at + 1)) (none_broken (q.lawful (at + 3)) (r.lawful (at + 3 + claim_size q.raw)));
          means = same3 make_step p.means q.means r.means;
        }

    named_lawful : ((ts : List Lexeme) (r : RawClaim) (at : ℕ) → Raw ts r → claim_rules g at r ≡ [] → claim ts (claim_meant g r))
        → (ts : List Lexeme) (s : RawStep) (at : ℕ) → IsRawNamed Raw ts s → step_rules g before at s ≡ [] → IsNamed claim before ts (step_meant g before s)
    named_lawful lawful ts s at (spells_named a b c u l x ls m n o z) h =
        let k = both_kept _ _ h in
        let k2 = both_kept _ _ k.1 in
        named_step a b c u l.text (claim_meant g x) (map (cited_meant before) ls) (name_lawful before a l (at + 1) m k.0) (after_lawful claim Raw (claim_rules g) (claim_meant g) lawful marks.Colon b x (at + 3) n k2.0) (using_lawful before c ls (at + 3 + claim_size x) o k2.1) z

    still_new : (ts : List Lexeme) (s : PlainStep) → IsNamed claim before ts s → IsNew s.name (names_of_steps before)
    still_new ts s (named_step a b c u name x cited (new_name t e new) m n z) = new

  step_tree : (before : List PlainStep) → AreApart (names_of_steps before) → (ts : List Lexeme) (s : PlainStep) → IsStep g before ts s → Tree (IsRawStep Forms Sums) (step_rules g before) (step_meant g before) ts s
  step_tree before apart ts s (invariance_step t us x e l) =
      let p = named_tree before (IsInvariance g) (IsRawInvariance Forms Sums) apart invariance_tree us x l in
      record { raw = p.raw; spells = spells_invariance_step t us p.raw e p.spells; lawful = p.lawful; means = p.means }
  step_tree before apart ts s (waiting_step t us x e l) =
      let p = named_tree before (IsWaiting g) (IsRawWaiting Forms Sums) apart waiting_tree us x l in
      record { raw = p.raw; spells = spells_waiting_step t us p.raw e p.spells; lawful = p.lawful; means = p.means }
  step_tree before apart ts s (response_step t us x e l) =
      let p = named_tree before (IsResponse g) (IsRawResponse Forms Sums) apart response_tree us x l in
      record { raw = p.raw; spells = spells_response_step t us p.raw e p.spells; lawful = p.lawful; means = p.means }

  step_lawful : (before : List PlainStep) (ts : List Lexeme) (s : RawStep) (at : ℕ) → IsRawStep Forms Sums ts s → step_rules g before at s ≡ [] → IsStep g before ts (step_meant g before s)
  step_lawful before ts s at (spells_invariance_step t us x e l) h = invariance_step t us (step_meant g before x) e (named_lawful before (IsInvariance g) (IsRawInvariance Forms Sums) invariance_lawful us x at l h)
  step_lawful before ts s at (spells_waiting_step t us x e l) h = waiting_step t us (step_meant g before x) e (named_lawful before (IsWaiting g) (IsRawWaiting Forms Sums) waiting_lawful us x at l h)
  step_lawful before ts s at (spells_response_step t us x e l) h = response_step t us (step_meant g before x) e (named_lawful before (IsResponse g) (IsRawResponse Forms Sums) response_lawful us x at l h)

  new_step : (before : List PlainStep) (ts : List Lexeme) (s : PlainStep) → IsStep g before ts s → IsNew s.name (names_of_steps before)
  new_step before ts s (invariance_step t us x e l) = still_new before (IsInvariance g) (IsRawInvariance Forms Sums) us x l
  new_step before ts s (waiting_step t us x e l) = still_new before (IsWaiting g) (IsRawWaiting Forms Sums) us x l
  new_step before ts s (response_step t us x e l) = still_new before (IsResponse g) (IsRawResponse Forms Sums) us x l

  -- SCRIPTS
  pub script_tree : (before : List PlainStep) (ts : List Lexeme) (steps : List PlainStep) → AreApart (names_of_steps before) → IsScript g before ts steps → Tree (IsRawScript Forms Sums) (steps_rules g before) (steps_meant g before) ts steps
  script_tree before ts steps apart (no_further_step b) = record { raw = []; spells = none_more; lawful = λ at. refl; means = refl }
  script_tree before ts steps apart (a_further_step b0 a b s zs l m) =
      let p = step_tree b0 apart a s l in
      let q = script_tree (b0 ++ s ∷ []) b zs (apart_grows b0 s apart (new_step b0 a s l)) m in
      record {
        raw = p.raw ∷ q.raw;
        spells = one_more a b p.raw q.raw p.spells q.spells;
        lawful = λ at. none_broken (p.lawful at) (subst (λ x. steps_rules g (b0 ++ x ∷ []) (at + step_size p.raw) q.raw ≡ []) (sym p.means) (q.lawful (at + step_size p.raw)));
        means = ap (λ x. steps_meant g (b0 ++ x ∷ []) q.raw) p.means ∙ q.means;
      }

  pub script_lawful : (before : List PlainStep) (ts : List Lexeme) (rs : List RawStep) (at : ℕ) → IsRawScript Forms Sums ts rs → steps_rules g before at rs ≡ [] → IsScript g before ts (steps_meant g before rs)
  script_lawful before ts rs at none_more h = no_further_step before
  script_lawful before ts rs at (one_more a b x xs l m) h =
      let k = both_kept _ _ h in
      a_further_step before a b (step_meant g before x) (steps_meant g (before ++ step_meant g before x ∷ []) xs) (step_lawful before a x at l k.0) (script_lawful (before ++ step_meant g before x ∷ []) b xs (at + step_size x) m k.1)
