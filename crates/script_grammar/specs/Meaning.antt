-- What a tree means: the script that it is where it breaks no rule. Where it breaks one, what it means is of no account: an
-- expression that isn't typed is false or 0, and a name that nothing has is that of number 0.
use Rattle.std.specs.Prelude.{ℕ, suc, Bool, false, pos, List, [], ◌∷◌, ◌++◌, map, if◌then◌else◌, Option, Some, None, unwrap_or, option_map, Result, Ok, Err}
use Rattle.std.specs.Str.{bytes_eq}
use Rattle.st_reading.specs.Reading.{Label}
use Rattle.st_linear.specs.Linear.{Linear, number as constant}
use Rattle.st_form.specs.Formula.{Formula, truth_value}
use Rattle.temporal_goals.specs.Texts.{PlainGoal, invariant, waiting, response, PlainNode, PlainLevel, PlainNestedNode, PlainDrawnNode, PlainEdge, PlainDiagram, PlainRule, basic, stronger, levels, net, diagram, nested, PlainStep}
use Rattle.temporal_goals.specs.declared.diagrams.DiagramKind.{DiagramKind}
use Rattle.temporal_goals.specs.declared.diagrams.DiagramKind.TheVariants.{Wait}
use Rattle.expression_typer.specs.declared.fault.TypeFault.{TypeFault}
use Rattle.expression_typer.specs.Naming.{is_text, names_of}
use Rattle.assertions.specs.Reading.{number_of, truth_of}
use Rattle.response_rules.specs.Forms.{chain_nodes, ranked_nodes, fair_nodes}
use Rattle.diagram_reader.specs.Transitions.{transition_named}
use Rattle.diagram_reader.specs.Drawn.{Drawing, nothing_drawn, with_terminal, with_node, with_edge, diagram_with}
use Rattle.proof_script.specs.Listing.{Setting}
use Rattle.proof_script.specs.Steps.{is_invariance}
use Rattle.script_grammar.specs.RawScripts.{RawUnit, RawTransition, RawDrawnNode, RawEdge, RawItem, raw_terminal, raw_node, raw_edge, RawDrawing, RawHelped, RawRanked, RawFair, RawNode, RawLevel, RawNestedNode, RawRule, raw_just, raw_chain, raw_ranked, raw_fair, raw_net, raw_nested, raw_diagram, RawWaitingRule, raw_levels, raw_wait_diagram, RawClaim, raw_invariance, raw_waiting, raw_response, RawStep}

-- what is typed so, or else another value
abbrev pub value_or : {A : Type 0} → A → Result A TypeFault → A
value_or other (Ok x) = x
value_or other (Err f) = other

abbrev pub one_later : ℕ × Bool → ℕ × Bool
one_later e = (suc e.0, e.1)

abbrev pub number_in : ℕ × Bool → ℕ
number_in e = e.0

-- the first of these steps with the name: its number, counted from 0, and whether it is an invariance
abbrev pub step_called : List PlainStep → List ℕ → Option (ℕ × Bool)
step_called [] name = None
step_called (s ∷ steps) name = if bytes_eq s.name name then Some (0, is_invariance s.goal) else option_map one_later (step_called steps name)

-- the same by a name that is ASCII, as all are in a text
abbrev pub lemma_called : List PlainStep → List ℕ → Option (ℕ × Bool)
lemma_called steps name = if is_text name then step_called steps name else None

-- the number of the step that is cited, of those that stand before
abbrev pub cited_meant : List PlainStep → Label → ℕ
cited_meant before l = unwrap_or (option_map number_in (lemma_called before l.text)) 0

module _ (g : Setting) where
  abbrev pub form_meant : RawUnit → Formula
  form_meant u = value_or (truth_value false) (truth_of (names_of g.names) u.tree)

  abbrev pub sum_meant : RawUnit → Linear
  sum_meant u = value_or (constant (pos 0)) (number_of (names_of g.names) u.tree)

  -- the transition that is named, by its number
  abbrev pub transition_seen : RawTransition → Option ℕ
  transition_seen t = transition_named g.names g.system t.label.text t.part

  abbrev pub transition_meant : RawTransition → ℕ
  transition_meant t = unwrap_or (transition_seen t) 0

  -- DRAWINGS
  abbrev pub drawn_node_meant : RawDrawnNode → PlainDrawnNode
  drawn_node_meant n = record { number = n.number.number; form = form_meant n.form; rank = option_map sum_meant n.rank; helper = option_map transition_meant n.helper }

  abbrev pub edge_meant : RawEdge → PlainEdge
  edge_meant e = record { from = e.from.number; to = e.to.number; on = map transition_meant e.on }

  -- what is drawn behind an item
  abbrev pub item_drawn : Drawing → RawItem → Drawing
  item_drawn d (raw_terminal place f) = with_terminal (form_meant f) d
  item_drawn d (raw_node place n) = with_node (drawn_node_meant n) d
  item_drawn d (raw_edge place e) = with_edge (edge_meant e) d

  abbrev pub items_drawn : Drawing → List RawItem → Drawing
  items_drawn d [] = d
  items_drawn d (x ∷ xs) = items_drawn (item_drawn d x) xs

  abbrev pub drawing_meant : DiagramKind → RawDrawing → PlainDiagram
  drawing_meant kind x = diagram_with kind (items_drawn nothing_drawn x.items) (unwrap_or (items_drawn nothing_drawn x.items).terminal (truth_value false))

  -- RULES
  abbrev pub helped_meant : RawHelped → Formula × ℕ
  helped_meant x = (form_meant x.form, transition_meant x.helper)

  abbrev pub ranked_meant : RawRanked → Formula × Linear × ℕ
  ranked_meant x = (form_meant x.form, sum_meant x.rank, transition_meant x.helper)

  abbrev pub fair_meant : RawFair → Formula × Option ℕ
  fair_meant x = (form_meant x.form, option_map transition_meant x.helper)

  abbrev pub node_meant : RawNode → PlainNode
  node_meant n = record { form = form_meant n.form; base = sum_meant n.base; delay = sum_meant n.delay; top = sum_meant n.top; group = option_map transition_meant n.group; helper = option_map transition_meant n.helper }

  abbrev pub level_meant : RawLevel → PlainLevel
  level_meant l = record { base = sum_meant l.base; top = sum_meant l.top; group = transition_meant l.group }

  abbrev pub nested_node_meant : RawNestedNode → PlainNestedNode
  nested_node_meant n = record { form = form_meant n.form; levels = map level_meant n.levels; delay = sum_meant n.delay; helper = option_map transition_meant n.helper }

  abbrev pub rule_meant : RawRule → PlainRule
  rule_meant (raw_just x) = net (chain_nodes (helped_meant x ∷ []))
  rule_meant (raw_chain xs) = net (chain_nodes (map helped_meant xs))
  rule_meant (raw_ranked xs) = net (ranked_nodes (map ranked_meant xs))
  rule_meant (raw_fair t xs) = net (fair_nodes (transition_meant t) (map fair_meant xs))
  rule_meant (raw_net ns) = net (map node_meant ns)
  rule_meant (raw_nested ns) = nested (map nested_node_meant ns)
  rule_meant (raw_diagram kind d) = diagram (drawing_meant kind d)

  abbrev pub waiting_rule_meant : RawWaitingRule → PlainRule
  waiting_rule_meant (raw_levels ls) = levels (map form_meant ls)
  waiting_rule_meant (raw_wait_diagram d) = diagram (drawing_meant Wait d)

  -- STEPS
  abbrev pub stronger_meant : Option RawUnit → PlainRule
  stronger_meant None = basic
  stronger_meant (Some f) = stronger (form_meant f)

  abbrev pub claim_meant : RawClaim → PlainGoal × PlainRule
  claim_meant (raw_invariance p f) = (invariant (form_meant p), stronger_meant f)
  claim_meant (raw_waiting p qs place r) = (waiting (form_meant p) (map form_meant qs), waiting_rule_meant r)
  claim_meant (raw_response p q e r) = (response (form_meant p) (form_meant q) (sum_meant e), rule_meant r)

  abbrev pub step_meant : List PlainStep → RawStep → PlainStep
  step_meant before s = record { name = s.name.text; goal = (claim_meant s.claim).0; rule = (claim_meant s.claim).1; cited = map (cited_meant before) s.cited }

  -- steps behind others
  abbrev pub steps_meant : List PlainStep → List RawStep → List PlainStep
  steps_meant before [] = before
  steps_meant before (s ∷ ss) = steps_meant (before ++ step_meant before s ∷ []) ss

  -- the script that a tree is
  abbrev pub scripted : List RawStep → List PlainStep
  scripted = steps_meant []
