use Rattle.std.proofs.Common.{◌++◌, ◌∷◌, [], rules, ap, ◌∙◌}
use Rattle.control_facts.proofs.Walked.{component_walked}
use Rattle.control_facts.proofs.walking.+walk.Goals as goal

pub walk_child-returns : goal.walk_child-returns
walk_child-returns t c =
    component_walked c.args.child.now c.args.around c.args.parts.now.items c.push.new.self.items c.walk_along.new.parts.items
    c.args.owners.now.items c.walk_along.new.owners.items c.push-2.new.self.items c.in-Ok.component c.in_ok-choices.choices.items
    c.deref.result.now c.deref-2.result.now
    (search rules) c.deref.ensures.value c.deref-2.ensures.value c.in_ok-choices.ensures (c.in_ok-push.ensures.items ∙ ap (λ z. c.args.parts.now.items ++ z ∷ []) c.new.ensures) c.in_ok-walk_along.ensures c.in_ok-push-2.ensures.items
