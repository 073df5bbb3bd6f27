-- The rules of scripts, on trees: which are broken, in the order of the text, with the token at which each is found and the
-- place that is named. `at` counts the tokens before a part. Behind the first rule that is broken the list is of no account.
use Rattle.std.specs.Prelude.{ℕ, ◌+◌, ◌-◌, Bool, true, cond, not, ◌&&◌, nat_eq, nat_lt, is_none, is_some, List, [], ◌∷◌, ◌++◌, length, Option, Some, None}
use Rattle.st_tokens.specs.declared.limit.LimitKind.TheVariants as limits
use Rattle.st_reading.specs.Reading.{Label}
use Rattle.st_reading.specs.Rule.{Rule}
use Rattle.st_reading.specs.Rule as rules
use Rattle.st_reading.specs.Breaches.{Breach, broke, limited}
use Rattle.st_reading.specs.BrokenRules.{Broken}
use Rattle.temporal_goals.specs.Texts.{PlainDrawnNode, PlainStep}
use Rattle.temporal_goals.specs.declared.diagrams.DiagramKind.{DiagramKind}
use Rattle.temporal_goals.specs.declared.diagrams.DiagramKind.TheVariants.{Wait}
use Rattle.expression_typer.specs.Naming.{names_of}
use Rattle.assertions.specs.Reading.{number_of, truth_of}
use Rattle.ranked_net.specs.Making.{is_uncompassionate, is_unfair}
use Rattle.diagram_reader.specs.Drawn.{Drawing, nothing_drawn, is_known, is_above, is_upward, has_helpers}
use Rattle.proof_script.specs.Listing.{Setting}
use Rattle.script_grammar.specs.RawScripts.{RawUnit, RawTransition, RawNumber, RawDrawnNode, RawEdge, RawItem, raw_terminal, raw_node, raw_edge, RawDrawing, RawHelped, RawRanked, RawFair, RawNode, RawLevel, RawNestedNode, RawRule, raw_just, raw_chain, raw_ranked, raw_fair, raw_net, raw_nested, raw_diagram, RawWaitingRule, raw_levels, raw_wait_diagram, RawClaim, raw_invariance, raw_waiting, raw_response, RawStep}
use Rattle.script_grammar.specs.Sizes.{optional_size, marked_size, many_size, unit_size, transition_size, label_size, drawn_node_size, item_size, drawing_size, helped_size, ranked_size, fair_size, node_size, level_size, nested_node_size, claim_size, step_size}
use Rattle.script_grammar.specs.Meaning.{step_called, lemma_called, transition_seen, item_drawn, items_drawn, step_meant}
use Rattle.script_grammar.specs.Nesting.{first_passing, form_passes, sum_passes}
use Rattle.script_grammar.specs.Breaking.{broken_where, nesting_rules, one_too_many_rules, typing_rules, optional_rules, marked_rules, many_rules, listed_rules}

-- NAMES OF STEPS
-- a name that no step before has
abbrev pub name_rules : List PlainStep → ℕ → Label → List (Broken Breach)
name_rules before at l = broken_where (is_some (step_called before l.text)) (at + 1) (broke rules.Twice l.place)

abbrev pub lemma_rules : ℕ → Label → Option (ℕ × Bool) → List (Broken Breach)
lemma_rules n l None = broken_where true n (broke rules.UnknownLemma l.place)
lemma_rules n l (Some e) = broken_where (not e.1) n (broke rules.NotInvariant l.place)

-- the name of a step before, which is an invariance
abbrev pub cited_rules : List PlainStep → ℕ → Label → List (Broken Breach)
cited_rules before at l = lemma_rules (at + 1) l (lemma_called before l.text)

-- TRANSITIONS, which end so many tokens
abbrev pub owed_rules : (Option ℕ → Bool) → Rule → ℕ → Label → Option ℕ → List (Broken Breach)
owed_rules fails rule n l None = broken_where true n (broke rules.UnknownTransition l.place)
owed_rules fails rule n l (Some k) = broken_where (fails (Some k)) n (broke rule l.place)

-- the number of a node that is drawn, or 0
abbrev pub known_rules : List PlainDrawnNode → ℕ → RawNumber → List (Broken Breach)
known_rules nodes at n = broken_where (not (is_known n.number nodes)) (at + 1) (broke rules.UnknownNode n.place)

-- the number of a new node; in a wait diagram it is that of a level, of which this is the highest
abbrev pub new_number_rules : DiagramKind → ℕ → List PlainDrawnNode → ℕ → RawNumber → List (Broken Breach)
new_number_rules kind highest nodes at n =
    broken_where (is_known n.number nodes) (at + 1) (broke rules.Twice n.place) ++ broken_where (is_above kind highest n.number) (at + 1) (broke rules.UnknownNode n.place)

module _ (g : Setting) where
  -- UNITS: at most 32 levels, and typed
  abbrev pub form_rules : ℕ → RawUnit → List (Broken Breach)
  form_rules at u = nesting_rules at (first_passing form_passes u.text) ++ typing_rules (at + u.size) (truth_of (names_of g.names) u.tree)

  -- listed behind so many others, of which there are at most 64
  abbrev pub listed_form_rules : ℕ → ℕ → RawUnit → List (Broken Breach)
  listed_form_rules before at u = cond (nat_lt before 64) (form_rules at u) (one_too_many_rules at u)

  abbrev pub sum_rules : ℕ → RawUnit → List (Broken Breach)
  sum_rules at u = nesting_rules at (first_passing sum_passes u.text) ++ typing_rules (at + u.size) (number_of (names_of g.names) u.tree)

  abbrev pub transition_rules : ℕ → RawTransition → List (Broken Breach)
  transition_rules at t = broken_where (is_none (transition_seen g t)) (at + transition_size t) (broke rules.UnknownTransition t.label.place)

  -- a just transition, and a compassionate one
  abbrev pub helper_rules : ℕ → RawTransition → List (Broken Breach)
  helper_rules at t = owed_rules (is_unfair g.system) rules.UnfairHelper (at + transition_size t) t.label (transition_seen g t)

  abbrev pub group_rules : ℕ → RawTransition → List (Broken Breach)
  group_rules at t = owed_rules (is_uncompassionate g.system) rules.NotCompassionate (at + transition_size t) t.label (transition_seen g t)

  -- DRAWINGS, of a kind; in a wait diagram nodes have the numbers of levels, of which this is the highest
  module _ (kind : DiagramKind) (highest : ℕ) where
    -- behind "node", at the place: a new number, and a helper where the kind has them; there are at most 64 nodes
    abbrev pub drawn_node_rules : Drawing → ℕ → ℕ → RawDrawnNode → List (Broken Breach)
    drawn_node_rules d place at n =
        broken_where (not (nat_lt (length d.nodes) 64)) at (limited limits.Nodes place)
        ++ (broken_where (is_known n.number.number d.nodes) (at + 1) (broke rules.Twice n.number.place)
        ++ (broken_where (is_above kind highest n.number.number) (at + 1) (broke rules.UnknownNode n.number.place)
        ++ (form_rules (at + 2) n.form
        ++ (optional_rules sum_rules (at + 2 + n.form.size) n.rank
        ++ (optional_rules helper_rules (at + 2 + n.form.size + optional_size unit_size n.rank) n.helper
        ++ broken_where (has_helpers kind && is_none n.helper) (at + drawn_node_size n) (broke rules.NoHelper n.number.place))))))

    -- behind "edge", at the place: between nodes that are drawn, not upward, on transitions
    abbrev pub edge_rules : Drawing → ℕ → ℕ → RawEdge → List (Broken Breach)
    edge_rules d place at e =
        known_rules d.nodes at e.from ++ (known_rules d.nodes (at + 2) e.to
        ++ (broken_where (is_upward kind e.from.number e.to.number) (at + 3) (broke rules.Upward place)
        ++ marked_rules transition_size transition_rules (at + 3) e.on))

    -- behind "terminal", at the place: there is no other
    abbrev pub terminal_rules : Drawing → ℕ → ℕ → RawUnit → List (Broken Breach)
    terminal_rules d place at f = broken_where (is_some d.terminal) at (broke rules.Twice place) ++ form_rules (at + 1) f

    abbrev pub item_rules : Drawing → ℕ → RawItem → List (Broken Breach)
    item_rules d at (raw_terminal place f) = terminal_rules d place (at + 1) f
    item_rules d at (raw_node place n) = drawn_node_rules d place (at + 1) n
    item_rules d at (raw_edge place e) = edge_rules d place (at + 1) e

    abbrev pub items_rules : Drawing → ℕ → List RawItem → List (Broken Breach)
    items_rules d at [] = []
    items_rules d at (x ∷ xs) = item_rules d at x ++ items_rules (item_drawn g d x) (at + item_size x) xs

    -- with a terminal node
    abbrev pub drawing_rules : ℕ → RawDrawing → List (Broken Breach)
    drawing_rules at x = items_rules nothing_drawn (at + 1) x.items ++ broken_where (is_none (items_drawn g nothing_drawn x.items).terminal) (at + drawing_size x) (broke rules.NoTerminal x.close)

  -- ITEMS OF RULES
  abbrev pub helped_rules : ℕ → RawHelped → List (Broken Breach)
  helped_rules at x = form_rules at x.form ++ helper_rules (at + x.form.size + 1) x.helper

  abbrev pub ranked_rules : ℕ → RawRanked → List (Broken Breach)
  ranked_rules at x = form_rules at x.form ++ (sum_rules (at + x.form.size + 1) x.rank ++ helper_rules (at + x.form.size + (1 + x.rank.size) + 1) x.helper)

  abbrev pub fair_rules : ℕ → RawFair → List (Broken Breach)
  fair_rules at x = form_rules at x.form ++ optional_rules helper_rules (at + x.form.size) x.helper

  -- a group or a helper; that there is neither is found at the token behind the node
  abbrev pub node_rules : ℕ → RawNode → List (Broken Breach)
  node_rules at n =
      form_rules at n.form
      ++ (sum_rules (at + n.form.size + 1) n.base
      ++ (sum_rules (at + n.form.size + (1 + n.base.size) + 1) n.delay
      ++ (sum_rules (at + n.form.size + (1 + n.base.size) + (1 + n.delay.size) + 1) n.top
      ++ (optional_rules group_rules (at + n.form.size + (1 + n.base.size) + (1 + n.delay.size) + (1 + n.top.size)) n.group
      ++ (optional_rules helper_rules (at + n.form.size + (1 + n.base.size) + (1 + n.delay.size) + (1 + n.top.size) + optional_size transition_size n.group) n.helper
      ++ broken_where (is_none n.group && is_none n.helper) (at + node_size n + 1) (broke rules.NoHelper n.form.place))))))

  abbrev pub level_rules : ℕ → RawLevel → List (Broken Breach)
  level_rules at l = sum_rules (at + 1) l.base ++ (sum_rules (at + (1 + l.base.size) + 1) l.top ++ group_rules (at + (1 + l.base.size) + (1 + l.top.size) + 1) l.group)

  -- a level or a helper, likewise
  abbrev pub nested_node_rules : ℕ → RawNestedNode → List (Broken Breach)
  nested_node_rules at n =
      form_rules at n.form
      ++ (many_rules level_size level_rules (at + n.form.size) n.levels
      ++ (sum_rules (at + n.form.size + many_size level_size n.levels + 1) n.delay
      ++ (optional_rules helper_rules (at + n.form.size + many_size level_size n.levels + (1 + n.delay.size)) n.helper
      ++ broken_where (nat_eq (length n.levels) 0 && is_none n.helper) (at + nested_node_size n + 1) (broke rules.NoHelper n.form.place))))

  -- RULES; the "[" is the mark before the first item
  abbrev pub rule_rules : ℕ → RawRule → List (Broken Breach)
  rule_rules at (raw_just x) = helped_rules (at + 1) x
  rule_rules at (raw_chain xs) = listed_rules (λ x. x.form) helped_size helped_rules 0 (at + 1) xs
  rule_rules at (raw_ranked xs) = listed_rules (λ x. x.form) ranked_size ranked_rules 0 (at + 1) xs
  rule_rules at (raw_fair t xs) = group_rules (at + 1) t ++ listed_rules (λ x. x.form) fair_size fair_rules 0 (at + 1 + transition_size t) xs
  rule_rules at (raw_net ns) = listed_rules (λ n. n.form) node_size node_rules 0 (at + 1) ns
  rule_rules at (raw_nested ns) = listed_rules (λ n. n.form) nested_node_size nested_node_rules 0 (at + 2) ns
  rule_rules at (raw_diagram kind d) = drawing_rules kind 0 (at + 2) d

  -- With the "by" before it, at the place, for so many formulas: as many levels. Another number is found at the token behind them.
  abbrev pub waiting_rule_rules : ℕ → ℕ → ℕ → RawWaitingRule → List (Broken Breach)
  waiting_rule_rules count place at (raw_levels ls) =
      listed_rules (λ l. l) unit_size form_rules 0 at ls ++ broken_where (not (nat_eq (length ls) count)) (at + marked_size unit_size ls + 1) (broke rules.WrongCount place)
  waiting_rule_rules count place at (raw_wait_diagram d) = drawing_rules Wait (count - 1) (at + 3) d

  -- CLAIMS
  abbrev pub claim_rules : ℕ → RawClaim → List (Broken Breach)
  claim_rules at (raw_invariance p f) = form_rules at p ++ optional_rules form_rules (at + p.size) f
  claim_rules at (raw_waiting p qs place r) =
      form_rules at p ++ (listed_rules (λ q. q) unit_size form_rules 0 (at + p.size) qs ++ waiting_rule_rules (length qs) place (at + p.size + marked_size unit_size qs) r)
  claim_rules at (raw_response p q e r) =
      form_rules at p ++ (form_rules (at + p.size + 1) q ++ (sum_rules (at + p.size + (1 + q.size) + 1) e ++ rule_rules (at + p.size + (1 + q.size) + (1 + e.size) + 1) r))

  -- STEPS
  -- "invariant" | .. , and name ":" claim [ "using" names ] ";"
  abbrev pub step_rules : List PlainStep → ℕ → RawStep → List (Broken Breach)
  step_rules before at s = name_rules before (at + 1) s.name ++ (claim_rules (at + 3) s.claim ++ marked_rules label_size (cited_rules before) (at + 3 + claim_size s.claim) s.cited)

  abbrev pub steps_rules : List PlainStep → ℕ → List RawStep → List (Broken Breach)
  steps_rules before at [] = []
  steps_rules before at (s ∷ ss) = step_rules before at s ++ steps_rules (before ++ step_meant g before s ∷ []) (at + step_size s) ss

  -- all rules that a script breaks
  abbrev pub broken_rules : List RawStep → List (Broken Breach)
  broken_rules = steps_rules [] 0
