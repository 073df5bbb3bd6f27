use Rattle.std.proofs.Common.{◌≡◌, ◌++◌, length, map}
use Rattle.temporal_goals.specs.Plain.{plain_node}
use Rattle.response_rules.specs.Forms.{plain_chain, chain_nodes}
use Rattle.response_rules.proofs.chain_nodes.Given as goal

abbrev pub invariant-loop-form : goal.invariant-loop-form
invariant-loop-form l = record {
  behind : l.behind ≡ length l.form-iterator.rest.items;
  nodes : map plain_node l.nodes.items ++ chain_nodes (plain_chain l.form-iterator.rest.items) ≡ chain_nodes (plain_chain l.fn.items.items);
}
