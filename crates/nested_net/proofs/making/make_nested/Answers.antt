use Rattle.std.proofs.Common.{◌≡◌, ◌∙◌, sym, subst, map, None}
use Rattle.transition_system.specs.Plain.{plain_system}
use Rattle.temporal_goals.specs.Plain.{plain_nested_node}
use Rattle.nested_net.specs.Making.{first_fault}
use Rattle.nested_net.proofs.Faultless.{nodes-fit}
use Rattle.nested_net.proofs.making.make_nested.Goals as goal

pub returns-in-None-clause-fits : goal.returns-in-None-clause-fits
returns-in-None-clause-fits c =
    nodes-fit (plain_system c.args.fts.now) 0 (map plain_nested_node c.args.nodes.items)
    (subst (λ xs. first_fault (plain_system c.args.fts.now) 0 (map plain_nested_node xs) ≡ None) c.deref.ensures.value (sym c.first_fault.ensures ∙ c.in-None.is))
