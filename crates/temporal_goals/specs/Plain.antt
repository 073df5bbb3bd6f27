-- The types of goals, nets, diagrams and scripts as plain data.
use Rattle.std.specs.Prelude.{List, map}
use Rattle.std.specs.String.{string_bytes}
use Rattle.st_form.specs.Plain.{plain}
use Rattle.temporal_goals.specs.declared.goals.Goal.{Goal}
use Rattle.temporal_goals.specs.declared.goals.Goal.TheVariants as goals
use Rattle.temporal_goals.specs.declared.nets.Node.{Node}
use Rattle.temporal_goals.specs.declared.nets.Net.{Net}
use Rattle.temporal_goals.specs.declared.nested.Level.{Level}
use Rattle.temporal_goals.specs.declared.nested.NestedNode.{NestedNode}
use Rattle.temporal_goals.specs.declared.nested.NestedNet.{NestedNet}
use Rattle.temporal_goals.specs.declared.diagrams.DiagramNode.{DiagramNode}
use Rattle.temporal_goals.specs.declared.diagrams.Edge.{Edge}
use Rattle.temporal_goals.specs.declared.diagrams.Diagram.{Diagram}
use Rattle.temporal_goals.specs.declared.scripts.RuleText.{RuleText}
use Rattle.temporal_goals.specs.declared.scripts.RuleText.TheVariants as rules
use Rattle.temporal_goals.specs.declared.scripts.Step.{Step}
use Rattle.temporal_goals.specs.declared.scripts.Script.{Script}
use Rattle.temporal_goals.specs.Texts.{PlainGoal, invariant, waiting, response, PlainNode, PlainLevel, PlainNestedNode, PlainDrawnNode, PlainEdge, PlainDiagram, PlainRule, basic, stronger, levels, net, diagram, nested, PlainStep}

abbrev pub plain_goal : Goal → PlainGoal
plain_goal (goals.Invariant p) = invariant (plain p)
plain_goal (goals.Waiting p forms) = waiting (plain p) (map plain forms.items)
plain_goal (goals.Response p q bound) = response (plain p) (plain q) bound

abbrev pub plain_node : Node → PlainNode
plain_node n = record { form = plain n.form; base = n.base; delay = n.delay; top = n.top; group = n.group; helper = n.helper }

abbrev pub plain_net : Net → List PlainNode
plain_net n = map plain_node n.nodes.items

abbrev pub plain_level : Level → PlainLevel
plain_level l = record { base = l.base; top = l.top; group = l.group }

abbrev pub plain_nested_node : NestedNode → PlainNestedNode
plain_nested_node n = record { form = plain n.form; levels = map plain_level n.levels.items; delay = n.delay; helper = n.helper }

abbrev pub plain_nested : NestedNet → List PlainNestedNode
plain_nested n = map plain_nested_node n.nodes.items

abbrev pub plain_drawn_node : DiagramNode → PlainDrawnNode
plain_drawn_node n = record { number = n.number; form = plain n.form; rank = n.rank; helper = n.helper }

abbrev pub plain_edge : Edge → PlainEdge
plain_edge e = record { from = e.from; to = e.to; on = e.on.items }

abbrev pub plain_diagram : Diagram → PlainDiagram
plain_diagram d = record {
  kind = d.kind;
  terminal = plain d.terminal;
  nodes = map plain_drawn_node d.nodes.items;
  edges = map plain_edge d.edges.items;
}

abbrev pub plain_rule : RuleText → PlainRule
plain_rule rules.Basic = basic
plain_rule (rules.Stronger f) = stronger (plain f)
plain_rule (rules.Levels fs) = levels (map plain fs.items)
plain_rule (rules.Net n) = net (plain_net n)
plain_rule (rules.Diagram d) = diagram (plain_diagram d)
plain_rule (rules.Nested n) = nested (plain_nested n)

abbrev pub plain_step : Step → PlainStep
plain_step s = record { name = string_bytes s.name; goal = plain_goal s.goal; rule = plain_rule s.rule; cited = s.cited.items }

abbrev pub plain_script : Script → List PlainStep
plain_script s = map plain_step s.steps.items
