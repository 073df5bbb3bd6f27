use Rattle.std.proofs.Common.{◌∙◌, ap, sym, map, take}
use Rattle.st_form.specs.Shared.{plain_condition}
use Rattle.vc_generator.specs.Refusing.{weights}
use Rattle.vc_generator.proofs.Weights.{plain-take}
use Rattle.vc_generator.proofs.conditions.take_back.Goals as goal

pub invariant_of-out : goal.invariant_of-out
invariant_of-out c =
    c.requires
    ∙ ap (λ v. weights (take c.args.length (map plain_condition v.items))) (sym c.out.view_is)
    ∙ ap weights (sym (ap (map plain_condition) c.truncate.ensures.items ∙ plain-take c.args.length c.out.inside.items.items))

pub returns : goal.returns
returns c =
    ap (map plain_condition) c.truncate.ensures.items ∙ plain-take c.args.length c.out.inside.items.items
    ∙ ap (λ v. take c.args.length (map plain_condition v.items)) c.out.view_is
