use Rattle.std.proofs.Common.{◌≡◌, ◌++◌, length, map}
use Rattle.temporal_goals.specs.Plain.{plain_node}
use Rattle.response_rules.specs.Forms.{plain_fair, fair_under, fair_nodes}
use Rattle.response_rules.proofs.fair_nodes.Given as goal

abbrev pub invariant-loop-form : goal.invariant-loop-form
invariant-loop-form l = record {
  behind : l.behind ≡ length l.form-iterator.rest.items;
  nodes : map plain_node l.nodes.items ++ fair_under l.top l.fn.group (plain_fair l.form-iterator.rest.items) ≡ fair_nodes l.fn.group (plain_fair l.fn.items.items);
}
