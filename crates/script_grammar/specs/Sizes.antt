-- How many tokens the parts of a script have.
use Rattle.std.specs.Prelude.{ℕ, ◌+◌, List, [], ◌∷◌, Option, Some, None}
use Rattle.st_reading.specs.Reading.{Label}
use Rattle.st_form.specs.declared.conditions.Part.{Part}
use Rattle.st_form.specs.declared.conditions.Part.TheVariants.{Whole, Entry, Exit}
use Rattle.script_grammar.specs.RawScripts.{RawUnit, RawTransition, RawDrawnNode, RawEdge, RawItem, raw_terminal, raw_node, raw_edge, RawDrawing, RawHelped, RawRanked, RawFair, RawNode, RawLevel, RawNestedNode, RawRule, raw_just, raw_chain, raw_ranked, raw_fair, raw_net, raw_nested, raw_diagram, RawWaitingRule, raw_levels, raw_wait_diagram, RawClaim, raw_invariance, raw_waiting, raw_response, RawStep}

-- a mark and what stands behind it, or nothing
abbrev pub optional_size : {A : Type 0} → (A → ℕ) → Option A → ℕ
optional_size size None = 0
optional_size size (Some x) = 1 + size x

-- items, each behind a mark
abbrev pub marked_size : {A : Type 0} → (A → ℕ) → List A → ℕ
marked_size size [] = 0
marked_size size (x ∷ xs) = 1 + size x + marked_size size xs

-- items behind one another
abbrev pub many_size : {A : Type 0} → (A → ℕ) → List A → ℕ
many_size size [] = 0
many_size size (x ∷ xs) = size x + many_size size xs

-- "[" item { ";" item } "]"
abbrev pub bracketed_size : {A : Type 0} → (A → ℕ) → List A → ℕ
bracketed_size size xs = marked_size size xs + 1

abbrev pub unit_size : RawUnit → ℕ
unit_size u = u.size

abbrev pub part_size : Part → ℕ
part_size Whole = 0
part_size Entry = 2
part_size Exit = 2

abbrev pub transition_size : RawTransition → ℕ
transition_size t = 1 + part_size t.part

abbrev pub label_size : Label → ℕ
label_size l = 1

-- DRAWINGS
abbrev pub drawn_node_size : RawDrawnNode → ℕ
drawn_node_size n = 2 + n.form.size + optional_size unit_size n.rank + optional_size transition_size n.helper + 1

abbrev pub edge_size : RawEdge → ℕ
edge_size e = 3 + marked_size transition_size e.on + 1

abbrev pub item_size : RawItem → ℕ
item_size (raw_terminal place f) = 1 + (1 + f.size + 1)
item_size (raw_node place n) = 1 + drawn_node_size n
item_size (raw_edge place e) = 1 + edge_size e

abbrev pub drawing_size : RawDrawing → ℕ
drawing_size d = 1 + many_size item_size d.items + 1

-- RULES
abbrev pub helped_size : RawHelped → ℕ
helped_size x = x.form.size + (1 + transition_size x.helper)

abbrev pub ranked_size : RawRanked → ℕ
ranked_size x = x.form.size + (1 + x.rank.size) + (1 + transition_size x.helper)

abbrev pub fair_size : RawFair → ℕ
fair_size x = x.form.size + optional_size transition_size x.helper

abbrev pub node_size : RawNode → ℕ
node_size n = n.form.size + (1 + n.base.size) + (1 + n.delay.size) + (1 + n.top.size) + optional_size transition_size n.group + optional_size transition_size n.helper

abbrev pub level_size : RawLevel → ℕ
level_size l = (1 + l.base.size) + (1 + l.top.size) + (1 + transition_size l.group)

abbrev pub nested_node_size : RawNestedNode → ℕ
nested_node_size n = n.form.size + many_size level_size n.levels + (1 + n.delay.size) + optional_size transition_size n.helper

abbrev pub rule_size : RawRule → ℕ
rule_size (raw_just x) = 1 + helped_size x
rule_size (raw_chain xs) = 1 + bracketed_size helped_size xs
rule_size (raw_ranked xs) = 1 + bracketed_size ranked_size xs
rule_size (raw_fair t xs) = 1 + transition_size t + bracketed_size fair_size xs
rule_size (raw_net ns) = 1 + bracketed_size node_size ns
rule_size (raw_nested ns) = 2 + bracketed_size nested_node_size ns
rule_size (raw_diagram kind d) = 2 + drawing_size d

-- STEPS
-- with the "by" before it
abbrev pub waiting_rule_size : RawWaitingRule → ℕ
waiting_rule_size (raw_levels ls) = marked_size unit_size ls
waiting_rule_size (raw_wait_diagram d) = 3 + drawing_size d

abbrev pub claim_size : RawClaim → ℕ
claim_size (raw_invariance p f) = p.size + optional_size unit_size f
claim_size (raw_waiting p qs place r) = p.size + marked_size unit_size qs + waiting_rule_size r
claim_size (raw_response p q e r) = p.size + (1 + q.size) + (1 + e.size) + (1 + rule_size r)

abbrev pub step_size : RawStep → ℕ
step_size s = 3 + claim_size s.claim + marked_size label_size s.cited + 1
