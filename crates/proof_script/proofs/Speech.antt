-- A script speaks of what the names stand for.
use Rattle.std.proofs.Common.{◌≡◌, ℕ, ◌-◌, ◌<◌, ◌≤◌, Bool, true, false, cond, pos, All, List, [], ◌∷◌, length, Option, Ok, subst, arith}
use Rattle.std.proofs.lemmas.List.Elements.{All-nil, All-cons, All-push, All-head, All-tail}
use Rattle.st_tokens.specs.Stream.{Stream, behind}
use Rattle.st_reading.proofs.Judged.{both, given}
use Rattle.st_reading.specs.declared.mark.Mark.{Mark}
use Rattle.st_reading.specs.declared.mark.Mark.TheVariants as marks
use Rattle.st_reading.specs.Sign.{is}
use Rattle.st_reading.specs.Reading.{ahead, place_of, refusal, expected, gives, then_reads}
use Rattle.st_linear.specs.Linear.{Linear, number}
use Rattle.st_form.specs.Formula.{Formula}
use Rattle.st_form.specs.declared.variables.Variable.{Variable}
use Rattle.st_program.specs.Names.{Names}
use Rattle.expression_parser.specs.Reading.{below, expression_of, sum_of as plain_sum_of}
use Rattle.transition_system.specs.Systems.{System}
use Rattle.temporal_goals.specs.Texts.{PlainGoal, invariant, waiting, response, PlainNode, PlainLevel, PlainNestedNode, PlainRule, net, diagram, nested, PlainStep}
use Rattle.temporal_goals.specs.declared.diagrams.DiagramKind.TheVariants.{Wait}
use Rattle.response_rules.specs.Forms.{chain_nodes, ranked_nodes, fair_nodes, fair_under}
use Rattle.expression_typer.specs.Naming.{names_of, NamesOver}
use Rattle.assertions.specs.Over.{FormulaOver}
use Rattle.assertions.specs.Reading.{form_of, linear_of}
use Rattle.assertions.proofs.Over.{form_over, linear_over}
use Rattle.diagram_reader.specs.Drawn.{Setting as DrawingSetting}
use Rattle.diagram_reader.specs.Drawing.{diagram_of}
use Rattle.st_reading.specs.Breaches.{Breach, Reader}
use Rattle.proof_script.specs.declared.steps.Claim.{Claim}
use Rattle.proof_script.specs.declared.steps.Claim.TheVariants as claims
use Rattle.proof_script.specs.declared.rules.Manner.{Manner}
use Rattle.proof_script.specs.declared.rules.Manner.TheVariants as manners
use Rattle.proof_script.specs.Faults.{drawn}
use Rattle.proof_script.specs.Listing.{Setting, optional, behind_mark, listed, bracketed, formula_of, sum_of, listed_formula_of, further_counted, compassionate_of}
use Rattle.proof_script.specs.Rules.{wanted_helper_of, helper_of, group_of, weight_of, helped_of, ranked_of, fair_of, node_of, group_level_of, group_levels_of, nested_node_of, manner_in, kind_in, just_nodes_of, chain_nodes_of, ranked_nodes_of, fair_nodes_of, nodes_of, nested_nodes_of, net_rule_of, as_net, response_diagram_of, ruled_of, rule_of}
use Rattle.proof_script.specs.Steps.{invariance_rule, earlier_of, new_name_of, citations_of, invariance_of, waiting_goal_of, levels_of, wait_diagram_of, waiting_by_of, waiting_of, response_of, claimed_of, step_of}
use Rattle.proof_script.specs.Script.{script_spelled}
use Rattle.script_speech.specs.Over.{SmallOver, GoalOver, NetNodeOver, LevelOver, NestedOver, RuleOver, StepOver}
use Rattle.proof_script.proofs.Inverses.{behind_it, optionally, operated, listed_few, few_listed, listed_fits, further_fits, bracketed_fits}
use Rattle.proof_script.proofs.Unbroken.{completed_fits}
use Rattle.proof_script.proofs.Grouping.{groups_keep, nested_completed_fits}
use Rattle.proof_script.proofs.Drawn.{drawn_over}
use Rattle.proof_script.proofs.Fitting.{drawn_is, matched_is}
use Rattle.proof_script.proofs.Scripts.{setting_for, script_keeps}

module _ (vs : List Variable) (locations : ℕ) where
  small : (k : ℕ) → k ≤ 64 → SmallOver vs locations (number (pos k))
  small k few = record { rising = tt; constant = omega (arith, few); entries = tt }

  abbrev Helped : Formula × ℕ → Type 0
  Helped x = FormulaOver vs locations x.0

  abbrev Ranked : Formula × Linear × ℕ → Type 0
  Ranked x = FormulaOver vs locations x.0 × SmallOver vs locations x.1

  abbrev Fair : Formula × Option ℕ → Type 0
  Fair x = FormulaOver vs locations x.0

  chain_over : (items : List (Formula × ℕ)) → length items ≤ 64 → All Helped items → All (NetNodeOver vs locations) (chain_nodes items)
  chain_over [] few h = All-nil (NetNodeOver vs locations)
  chain_over (x ∷ xs) few h =
      let k : length xs ≤ 64 = omega (arith, few) in
      All-cons (NetNodeOver vs locations) _ (chain_nodes xs) (record { form = All-head Helped x xs h; base = small (length xs) k; delay = small 0 (omega arith); top = small (length xs) k }) (chain_over xs k (All-tail Helped x xs h))

  ranked_over : (items : List (Formula × Linear × ℕ)) → All Ranked items → All (NetNodeOver vs locations) (ranked_nodes items)
  ranked_over [] h = All-nil (NetNodeOver vs locations)
  ranked_over (x ∷ xs) h =
      let one = All-head Ranked x xs h in
      All-cons (NetNodeOver vs locations) _ (ranked_nodes xs) (record { form = one.0; base = one.1; delay = small 0 (omega arith); top = one.1 }) (ranked_over xs (All-tail Ranked x xs h))

  fair_over : (top group : ℕ) (items : List (Formula × Option ℕ)) → top ≤ 64 → length items ≤ 64 → All Fair items → All (NetNodeOver vs locations) (fair_under top group items)
  fair_over top group [] low few h = All-nil (NetNodeOver vs locations)
  fair_over top group (x ∷ xs) low few h =
      let k : length xs ≤ 64 = omega (arith, few) in
      All-cons (NetNodeOver vs locations) _ (fair_under top group xs) (record { form = All-head Fair x xs h; base = small 0 (omega arith); delay = small (length xs) k; top = small top low })
      (fair_over top group xs low k (All-tail Fair x xs h))

  module _ (g : Setting) (over : NamesOver vs locations (names_of g.names)) where
    formula_over : (s : Stream) (f : Formula) (rest : Stream) → formula_of g s ≡ Ok (f, rest) → FormulaOver vs locations f
    unfolding formula_of form_of
    formula_over s f rest h = form_over vs locations (names_of g.names) over (expression_of true (below true 32) s) f rest h

    sum_over : (s : Stream) (f : Linear) (rest : Stream) → sum_of g s ≡ Ok (f, rest) → SmallOver vs locations f
    unfolding sum_of linear_of
    sum_over s f rest h = linear_over vs locations (names_of g.names) over (plain_sum_of true (below true 32) s) f rest h

    -- a formula that is listed, and how many are before it
    listed_over : (before : ℕ) (f : Formula) (s rest : Stream) → listed_formula_of g before s ≡ Ok (f, rest) → (before < 64) × FormulaOver vs locations f
    listed_over before f s rest h = (listed_few g before s f rest h, formula_over s f rest (few_listed g before s f rest h))

    weight_over : (mark : Mark) (s : Stream) (f : Linear) (rest : Stream) → weight_of g mark s ≡ Ok (f, rest) → SmallOver vs locations f
    unfolding weight_of
    weight_over mark s f rest h = let a = behind_it mark (sum_of g) f s rest h in sum_over a.0 f rest a.1

    helped_over : (before : ℕ) (x : Formula × ℕ) (s rest : Stream) → helped_of g before s ≡ Ok (x, rest) → (before < 64) × Helped x
    unfolding helped_of
    helped_over before x s rest e =
        let a = both (listed_formula_of g before s) _ (x, rest) e in
        let b = both (wanted_helper_of g a.value.1) _ (x, rest) a.second in
        let made : Formula × ℕ = (a.value.0, b.value.0) in
        let f = listed_over before a.value.0 s a.value.1 a.first in
        (f.0, subst Helped (given made x b.value.1 rest b.second) f.1)

    ranked_item_over : (before : ℕ) (x : Formula × Linear × ℕ) (s rest : Stream) → ranked_of g before s ≡ Ok (x, rest) → (before < 64) × Ranked x
    unfolding ranked_of
    ranked_item_over before x s rest e =
        let a = both (listed_formula_of g before s) _ (x, rest) e in
        let b = both (weight_of g marks.Rank a.value.1) _ (x, rest) a.second in
        let c = both (wanted_helper_of g b.value.1) _ (x, rest) b.second in
        let made : Formula × Linear × ℕ = (a.value.0, b.value.0, c.value.0) in
        let f = listed_over before a.value.0 s a.value.1 a.first in
        (f.0, subst Ranked (given made x c.value.1 rest c.second) (f.1, weight_over marks.Rank a.value.1 b.value.0 b.value.1 b.first))

    fair_item_over : (before : ℕ) (x : Formula × Option ℕ) (s rest : Stream) → fair_of g before s ≡ Ok (x, rest) → (before < 64) × Fair x
    unfolding fair_of
    fair_item_over before x s rest e =
        let a = both (listed_formula_of g before s) _ (x, rest) e in
        let b = both (helper_of g a.value.1) _ (x, rest) a.second in
        let made : Formula × Option ℕ = (a.value.0, b.value.0) in
        let f = listed_over before a.value.0 s a.value.1 a.first in
        (f.0, subst Fair (given made x b.value.1 rest b.second) f.1)

    node_over : (before : ℕ) (n : PlainNode) (s rest : Stream) → node_of g before s ≡ Ok (n, rest) → (before < 64) × NetNodeOver vs locations n
    unfolding node_of
    node_over before n s rest e =
        let a = both (listed_formula_of g before s) _ (n, rest) e in
        let b = both (weight_of g marks.Base a.value.1) _ (n, rest) a.second in
        let c = both (weight_of g marks.Delay b.value.1) _ (n, rest) b.second in
        let d = both (weight_of g marks.Top c.value.1) _ (n, rest) c.second in
        let i = both (group_of g d.value.1) _ (n, rest) d.second in
        let j = both (helper_of g i.value.1) _ (n, rest) i.second in
        let made : PlainNode = record { form = a.value.0; base = b.value.0; delay = c.value.0; top = d.value.0; group = i.value.0; helper = j.value.0 } in
        let k = completed_fits g (place_of s) made n j.value.1 rest j.second in
        let f = listed_over before a.value.0 s a.value.1 a.first in
        let read : NetNodeOver vs locations made = record { form = f.1; base = weight_over marks.Base a.value.1 b.value.0 b.value.1 b.first; delay = weight_over marks.Delay b.value.1 c.value.0 c.value.1 c.first; top = weight_over marks.Top c.value.1 d.value.0 d.value.1 d.first } in
        (f.0, subst (NetNodeOver vs locations) {x = made} k.1 read)

    group_level_over : (l : PlainLevel) (s rest : Stream) → group_level_of g s ≡ Ok (l, rest) → LevelOver vs locations l
    unfolding group_level_of
    group_level_over l s rest e =
        let a = both (sum_of g s) _ (l, rest) e in
        let b = both (weight_of g marks.Top a.value.1) _ (l, rest) a.second in
        let c = both (behind_mark marks.Group (compassionate_of g) b.value.1) _ (l, rest) b.second in
        let made : PlainLevel = record { base = a.value.0; top = b.value.0; group = c.value.0 } in
        let read : LevelOver vs locations made = record { base = sum_over s a.value.0 a.value.1 a.first; top = weight_over marks.Top a.value.1 b.value.0 b.value.1 b.first } in
        subst (LevelOver vs locations) {x = made} (given made l c.value.1 rest c.second) read

    nested_node_over : (before : ℕ) (n : PlainNestedNode) (s rest : Stream) → nested_node_of g before s ≡ Ok (n, rest) → (before < 64) × NestedOver vs locations n
    unfolding nested_node_of
    nested_node_over before n s rest e =
        let a = both (listed_formula_of g before s) _ (n, rest) e in
        let b = both (group_levels_of g 4 [] a.value.1) _ (n, rest) a.second in
        let c = both (weight_of g marks.Delay b.value.1) _ (n, rest) b.second in
        let d = both (helper_of g c.value.1) _ (n, rest) c.second in
        let made : PlainNestedNode = record { form = a.value.0; levels = b.value.0; delay = c.value.0; helper = d.value.0 } in
        let k = nested_completed_fits (place_of s) made n d.value.1 rest d.second in
        let f = listed_over before a.value.0 s a.value.1 a.first in
        let ls = (groups_keep g (LevelOver vs locations) group_level_over 4 [] b.value.0 a.value.1 b.value.1 b.first (All-nil (LevelOver vs locations))).0 in
        let read : NestedOver vs locations made = record { form = f.1; levels = ls; delay = weight_over marks.Delay b.value.1 c.value.0 c.value.1 c.first } in
        (f.0, subst (NestedOver vs locations) {x = made} k.1 read)

    abbrev Nodes : List PlainNode → Type 0
    Nodes ns = All (NetNodeOver vs locations) ns

    just_nodes_over : (ns : List PlainNode) (s rest : Stream) → just_nodes_of g s ≡ Ok (ns, rest) → Nodes ns
    unfolding just_nodes_of
    just_nodes_over ns s rest h =
        let a = both (helped_of g 0 s) _ (ns, rest) h in
        subst Nodes (given (chain_nodes (a.value.0 ∷ [])) ns a.value.1 rest a.second) (chain_over (a.value.0 ∷ []) (omega arith) (All-cons Helped a.value.0 [] (helped_over 0 a.value.0 s a.value.1 a.first).1 (All-nil Helped)))

    chain_nodes_over : (ns : List PlainNode) (s rest : Stream) → chain_nodes_of g s ≡ Ok (ns, rest) → Nodes ns
    unfolding chain_nodes_of
    chain_nodes_over ns s rest h =
        let a = both (bracketed (helped_of g) s) _ (ns, rest) h in
        let f = bracketed_fits (helped_of g) Helped helped_over a.value.0 s a.value.1 a.first in
        subst Nodes (given (chain_nodes a.value.0) ns a.value.1 rest a.second) (chain_over a.value.0 f.0 f.1)

    ranked_nodes_over : (ns : List PlainNode) (s rest : Stream) → ranked_nodes_of g s ≡ Ok (ns, rest) → Nodes ns
    unfolding ranked_nodes_of
    ranked_nodes_over ns s rest h =
        let a = both (bracketed (ranked_of g) s) _ (ns, rest) h in
        let f = bracketed_fits (ranked_of g) Ranked ranked_item_over a.value.0 s a.value.1 a.first in
        subst Nodes (given (ranked_nodes a.value.0) ns a.value.1 rest a.second) (ranked_over a.value.0 f.1)

    fair_nodes_over : (ns : List PlainNode) (s rest : Stream) → fair_nodes_of g s ≡ Ok (ns, rest) → Nodes ns
    unfolding fair_nodes_of
    fair_nodes_over ns s rest h =
        let t = both (compassionate_of g s) _ (ns, rest) h in
        let a = both (bracketed (fair_of g) t.value.1) _ (ns, rest) t.second in
        let f = bracketed_fits (fair_of g) Fair fair_item_over a.value.0 t.value.1 a.value.1 a.first in
        let few = f.0 in
        subst Nodes (given (fair_nodes t.value.0 a.value.0) ns a.value.1 rest a.second) (fair_over (length a.value.0 - 1) t.value.0 a.value.0 (omega (arith, few)) few f.1)

    nodes_over : (ns : List PlainNode) (s rest : Stream) → nodes_of g s ≡ Ok (ns, rest) → Nodes ns
    unfolding nodes_of
    nodes_over ns s rest h = (bracketed_fits (node_of g) (NetNodeOver vs locations) node_over ns s rest h).1

    abbrev Ruled : PlainRule → Type 0
    Ruled rule = RuleOver vs locations rule

    net_over : (r : Reader (List PlainNode)) → ((ns : List PlainNode) (s rest : Stream) → r s ≡ Ok (ns, rest) → Nodes ns) → (rule : PlainRule) (s rest : Stream) → as_net r s ≡ Ok (rule, rest) → Ruled rule
    net_over r each rule s rest h =
        let a = both (r s) _ (rule, rest) h in
        subst Ruled (given (net a.value.0) rule a.value.1 rest a.second) (each a.value.0 s a.value.1 a.first)

    response_diagram_over : (rule : PlainRule) (s rest : Stream) → response_diagram_of g s ≡ Ok (rule, rest) → Ruled rule
    unfolding response_diagram_of
    response_diagram_over rule s rest h =
        let o = operated (kind_in (ahead s)) (refusal s) (λ k. then_reads (λ t. drawn (diagram_of k 0 g.names g.system t)) (λ d. gives (diagram d)) (behind s)) (rule, rest) h in
        let b = both (drawn (diagram_of o.0 0 g.names g.system (behind s))) _ (rule, rest) o.2 in
        let read = drawn_is (diagram_of o.0 0 g.names g.system (behind s)) b.value.0 b.value.1 b.first in
        let for_it : DrawingSetting = record { kind = o.0; levels = 0; names = g.names; system = g.system } in
        subst Ruled (given (diagram b.value.0) rule b.value.1 rest b.second) (drawn_over vs locations for_it over (behind s) b.value.0 b.value.1 read)

    nested_rule_over : (rule : PlainRule) (s rest : Stream) → then_reads (nested_nodes_of g) (λ ns. gives (nested ns)) s ≡ Ok (rule, rest) → Ruled rule
    unfolding nested_nodes_of
    nested_rule_over rule s rest h =
        let a = both (nested_nodes_of g s) _ (rule, rest) h in
        subst Ruled (given (nested a.value.0) rule a.value.1 rest a.second) (bracketed_fits (nested_node_of g) (NestedOver vs locations) nested_node_over a.value.0 s a.value.1 a.first).1

    net_rule_over : (rule : PlainRule) (s rest : Stream) → net_rule_of g s ≡ Ok (rule, rest) → Ruled rule
    unfolding net_rule_of
    net_rule_over rule s rest h = at_test (is (ahead s) marks.Group) h
      where
        at_test : (b : Bool) → cond b (then_reads (nested_nodes_of g) (λ ns. gives (nested ns)) (behind s)) (as_net (nodes_of g) s) ≡ Ok (rule, rest) → Ruled rule
        at_test true h = nested_rule_over rule (behind s) rest h
        at_test false h = net_over (nodes_of g) nodes_over rule s rest h

    ruled_over : (m : Manner) (rule : PlainRule) (s rest : Stream) → ruled_of g m s ≡ Ok (rule, rest) → Ruled rule
    unfolding ruled_of
    ruled_over manners.Just rule s rest h = net_over (just_nodes_of g) just_nodes_over rule s rest h
    ruled_over manners.Chain rule s rest h = net_over (chain_nodes_of g) chain_nodes_over rule s rest h
    ruled_over manners.Ranked rule s rest h = net_over (ranked_nodes_of g) ranked_nodes_over rule s rest h
    ruled_over manners.Fair rule s rest h = net_over (fair_nodes_of g) fair_nodes_over rule s rest h
    ruled_over manners.Net rule s rest h = net_rule_over rule s rest h
    ruled_over manners.Diagram rule s rest h = response_diagram_over rule s rest h

    rule_over : (rule : PlainRule) (s rest : Stream) → rule_of g s ≡ Ok (rule, rest) → Ruled rule
    unfolding rule_of
    rule_over rule s rest h = let o = operated (manner_in (ahead s)) (refusal s) (λ m. ruled_of g m (behind s)) (rule, rest) h in ruled_over o.0 rule (behind s) rest o.2

    abbrev Claimed : PlainGoal × PlainRule → Type 0
    Claimed c = GoalOver vs locations c.0 × RuleOver vs locations c.1

    invariance_over : (c : PlainGoal × PlainRule) (s rest : Stream) → invariance_of g s ≡ Ok (c, rest) → Claimed c
    unfolding invariance_of
    invariance_over c s rest h =
        let a = both (formula_of g s) _ (c, rest) h in
        let b = both (optional marks.By (formula_of g) a.value.1) _ (c, rest) a.second in
        let made : PlainGoal × PlainRule = (invariant a.value.0, invariance_rule b.value.0) in
        let ruled = optionally marks.By (formula_of g) (λ o. Ruled (invariance_rule o)) tt (λ x m r k. formula_over m x r k) b.value.0 a.value.1 b.value.1 b.first in
        subst Claimed {x = made} (given made c b.value.1 rest b.second) (formula_over s a.value.0 a.value.1 a.first, ruled)

    waiting_goal_over : (w : Formula × List Formula) (s rest : Stream) → waiting_goal_of g s ≡ Ok (w, rest) → GoalOver vs locations (waiting w.0 w.1)
    unfolding waiting_goal_of
    waiting_goal_over w s rest h =
        let a = both (formula_of g s) _ (w, rest) h in
        let b = both (behind_mark marks.Unless (listed_formula_of g 0) a.value.1) _ (w, rest) a.second in
        let b1 = behind_it marks.Unless (listed_formula_of g 0) b.value.0 a.value.1 b.value.1 b.first in
        let c = both (behind_mark marks.Wait (listed_formula_of g 1) b.value.1) _ (w, rest) b.second in
        let c1 = behind_it marks.Wait (listed_formula_of g 1) c.value.0 b.value.1 c.value.1 c.first in
        let two : List Formula = b.value.0 ∷ c.value.0 ∷ [] in
        let d = both (further_counted marks.Wait (listed_formula_of g) two c.value.1) _ (w, rest) c.second in
        let made : Formula × List Formula = (a.value.0, d.value.0) in
        let both_over = All-cons (FormulaOver vs locations) b.value.0 (c.value.0 ∷ []) (listed_over 0 b.value.0 b1.0 b.value.1 b1.1).1 (All-cons (FormulaOver vs locations) c.value.0 [] (listed_over 1 c.value.0 c1.0 c.value.1 c1.1).1 (All-nil (FormulaOver vs locations))) in
        let all = further_fits marks.Wait (listed_formula_of g) (FormulaOver vs locations) listed_over two d.value.0 c.value.1 d.value.1 (omega arith, both_over) d.first in
        subst (λ (v : Formula × List Formula). GoalOver vs locations (waiting v.0 v.1)) {x = made} (given made w d.value.1 rest d.second) (formula_over s a.value.0 a.value.1 a.first, all.1)

    levels_over : (place count : ℕ) (rule : PlainRule) (s rest : Stream) → levels_of g place count s ≡ Ok (rule, rest) → Ruled rule
    unfolding levels_of
    levels_over place count rule s rest h =
        let a = both (listed marks.Comma (listed_formula_of g) s) _ (rule, rest) h in
        subst Ruled (matched_is place count a.value.0 rule a.value.1 rest a.second) (listed_fits marks.Comma (listed_formula_of g) (FormulaOver vs locations) listed_over a.value.0 s a.value.1 a.first).1

    wait_diagram_over : (count : ℕ) (rule : PlainRule) (s rest : Stream) → wait_diagram_of g count s ≡ Ok (rule, rest) → Ruled rule
    unfolding wait_diagram_of
    wait_diagram_over count rule s rest h =
        let a = behind_it marks.Wait (then_reads (λ t. drawn (diagram_of Wait (count - 1) g.names g.system t)) (λ d. gives (diagram d))) rule s rest h in
        let b = both (drawn (diagram_of Wait (count - 1) g.names g.system a.0)) _ (rule, rest) a.1 in
        let read = drawn_is (diagram_of Wait (count - 1) g.names g.system a.0) b.value.0 b.value.1 b.first in
        let for_it : DrawingSetting = record { kind = Wait; levels = count - 1; names = g.names; system = g.system } in
        subst Ruled (given (diagram b.value.0) rule b.value.1 rest b.second) (drawn_over vs locations for_it over a.0 b.value.0 b.value.1 read)

    waiting_by_over : (count place : ℕ) (rule : PlainRule) (s rest : Stream) → waiting_by_of g count place s ≡ Ok (rule, rest) → Ruled rule
    unfolding waiting_by_of
    waiting_by_over count place rule s rest h = at_test (is (ahead s) marks.Diagram) h
      where
        at_test : (b : Bool) → cond b (wait_diagram_of g count (behind s)) (levels_of g place count s) ≡ Ok (rule, rest) → Ruled rule
        at_test true h = wait_diagram_over count rule (behind s) rest h
        at_test false h = levels_over place count rule s rest h

    waiting_over : (c : PlainGoal × PlainRule) (s rest : Stream) → waiting_of g s ≡ Ok (c, rest) → Claimed c
    unfolding waiting_of
    waiting_over c s rest h =
        let a = both (waiting_goal_of g s) _ (c, rest) h in
        let b = both (then_reads (expected marks.By) (waiting_by_of g (length a.value.0.1)) a.value.1) _ (c, rest) a.second in
        let d = both (expected {X = Breach} marks.By a.value.1) _ b.value b.first in
        let made : PlainGoal × PlainRule = (waiting a.value.0.0 a.value.0.1, b.value.0) in
        subst Claimed {x = made} (given made c b.value.1 rest b.second) (waiting_goal_over a.value.0 s a.value.1 a.first, waiting_by_over (length a.value.0.1) d.value.0 b.value.0 d.value.1 b.value.1 d.second)

    response_over : (c : PlainGoal × PlainRule) (s rest : Stream) → response_of g s ≡ Ok (c, rest) → Claimed c
    unfolding response_of
    response_over c s rest h =
        let a = both (formula_of g s) _ (c, rest) h in
        let b = both (behind_mark marks.Leads (formula_of g) a.value.1) _ (c, rest) a.second in
        let b1 = behind_it marks.Leads (formula_of g) b.value.0 a.value.1 b.value.1 b.first in
        let d = both (behind_mark marks.Within (sum_of g) b.value.1) _ (c, rest) b.second in
        let d1 = behind_it marks.Within (sum_of g) d.value.0 b.value.1 d.value.1 d.first in
        let e = both (behind_mark marks.By (rule_of g) d.value.1) _ (c, rest) d.second in
        let r = behind_it marks.By (rule_of g) e.value.0 d.value.1 e.value.1 e.first in
        let made : PlainGoal × PlainRule = (response a.value.0 b.value.0 d.value.0, e.value.0) in
        subst Claimed {x = made} (given made c e.value.1 rest e.second)
        ((formula_over s a.value.0 a.value.1 a.first, formula_over b1.0 b.value.0 b.value.1 b1.1, sum_over d1.0 d.value.0 d.value.1 d1.1), rule_over e.value.0 r.0 e.value.1 r.1)

    claimed_over : (claim : Claim) (c : PlainGoal × PlainRule) (s rest : Stream) → claimed_of g claim s ≡ Ok (c, rest) → Claimed c
    unfolding claimed_of
    claimed_over claims.Invariant c s rest h = invariance_over c s rest h
    claimed_over claims.Waiting c s rest h = waiting_over c s rest h
    claimed_over claims.Response c s rest h = response_over c s rest h

    step_over : (claim : Claim) (steps : List PlainStep) (x : PlainStep) (s rest : Stream) → step_of g claim (earlier_of steps) s ≡ Ok (x, rest) → StepOver vs locations x
    unfolding step_of
    step_over claim steps x s rest h =
        let a = both (new_name_of (earlier_of steps) s) _ (x, rest) h in
        let b = both (behind_mark marks.Colon (claimed_of g claim) a.value.1) _ (x, rest) a.second in
        let c = both (citations_of (earlier_of steps) b.value.1) _ (x, rest) b.second in
        let d = both (expected {X = Breach} marks.Semicolon c.value.1) _ (x, rest) c.second in
        let k = behind_it marks.Colon (claimed_of g claim) b.value.0 a.value.1 b.value.1 b.first in
        let made : PlainStep = record { name = a.value.0; goal = b.value.0.0; rule = b.value.0.1; cited = c.value.0 } in
        subst (StepOver vs locations) {x = made} (given made x d.value.1 rest d.second) (claimed_over claim b.value.0 k.0 b.value.1 k.1)

pub script_over : (vs : List Variable) (locations : ℕ) (names : Names) (system : System) → NamesOver vs locations (names_of names)
    → (text : List ℕ) (steps : List PlainStep) → script_spelled names system text ≡ Ok steps → All (StepOver vs locations) steps
script_over vs locations names system over text steps h =
    script_keeps names system (All (StepOver vs locations))
    (λ claim earlier x s rest r p. All-push (StepOver vs locations) earlier x p (step_over vs locations (setting_for names system) over claim earlier x s rest r)) (All-nil (StepOver vs locations)) text steps h
