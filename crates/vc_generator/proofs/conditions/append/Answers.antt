use Rattle.std.proofs.Common.{arith, ◌∙◌, ap, map}
use Rattle.st_form.specs.Shared.{plain_condition}
use Rattle.vc_generator.specs.Refusing.{weights}
use Rattle.vc_generator.proofs.Weights.{weights-more, plain-more}
use Rattle.vc_generator.proofs.conditions.append.Goals as goal

pub invariant_of-out-2 : goal.invariant_of-out-2
invariant_of-out-2 c =
    let grown = ap (λ cs. weights (map plain_condition cs)) c.in_ok-push.ensures.ok ∙ ap weights (plain-more c.out.inside.items.items c.args.condition) ∙ weights-more (map plain_condition c.out.inside.items.items) (plain_condition c.args.condition) in
    omega (arith, grown, c.out.invariant, c.saturating_add-total.ensures, c.condition_weight.ensures, c.if-total-gt-HEAVIEST.false)
