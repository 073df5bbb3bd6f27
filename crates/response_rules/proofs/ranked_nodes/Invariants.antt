use Rattle.std.proofs.Common.{◌≡◌, ◌++◌, map}
use Rattle.temporal_goals.specs.Plain.{plain_node}
use Rattle.response_rules.specs.Forms.{plain_ranked, ranked_nodes}
use Rattle.response_rules.proofs.ranked_nodes.Given as goal

abbrev pub invariant-loop-form : goal.invariant-loop-form
invariant-loop-form l = map plain_node l.nodes.items ++ ranked_nodes (plain_ranked l.form-iterator.rest.items) ≡ ranked_nodes (plain_ranked l.fn.items.items)
