use Rattle.std.proofs.Common.{◌≡◌, ◌∙◌, ◌++◌, ◌+◌, arith, ap, subst, map}
use Rattle.std.specs.Result.{OnOk}
use Rattle.st_form.specs.Plain.{plain}
use Rattle.transition_system.specs.Plain.{plain_system}
use Rattle.temporal_goals.specs.Plain.{plain_level, plain_nested_node}
use Rattle.vc_generator.specs.Plain.{plain_case}
use Rattle.rule_laws.specs.Names.{enabled_of}
use Rattle.rule_laws.specs.NestedNet.{group_at}
use Rattle.nested_net.proofs.Reading.{frees-by}
use Rattle.nested_net.proofs.cases.push_frees.Goals as goal

pub returns : goal.returns
returns c =
    let system = plain_system c.args.fts.now in
    let is = c.in_ok-enabled.ensures ∙ ap (enabled_of system) (c.group_at-group.ensures ∙ ap (λ xs. group_at c.args.depth (map plain_level xs)) c.deref.ensures.value) in
    subst (λ cs. OnOk c.push_free.result (map plain_case c.push_free.new.cases.items ≡ map plain_case c.args.cases.now.items ++ cs))
    (frees-by system (map plain_nested_node c.args.nodes.now) (plain_nested_node c.args.node.now) c.args.depth (c.args.depth + 1) (plain c.in_ok-enabled.enabled) (omega arith) is)
    c.push_free.ensures
