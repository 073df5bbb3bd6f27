use Rattle.std.proofs.Common.{subst, refl}
use Rattle.std.specs.Prelude.{IfSome}
use Rattle.tree_texts.specs.Written.{IsAcceptedBy}
use Rattle.tree_texts.proofs.proving.proved.Goals as goal

pub returns-in-Some-2 : goal.returns-in-Some-2
returns-in-Some-2 c =
    (let texts = c.args.texts.now in
    let lent = subst (λ o. IfSome o (IsAcceptedBy texts c.deref.result.now)) c.in-Some-2.is c.in_ok-accepted.ensures in
    record { status = refl; accepted = (c.in-Some-2.field-0, subst (λ v. IsAcceptedBy texts v c.in-Some-2.field-0) c.deref.ensures.value lent) })
