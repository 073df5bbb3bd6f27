use Rattle.std.proofs.Common.{ap, arith}
use Rattle.st_form.specs.Plain.{plain}
use Rattle.linear_prover.proofs.Lending.{made-more, made-done}
use Rattle.linear_prover.proofs.joining.with_all.Goals as goal

pub loop-f-preserved : goal.loop-f-preserved
loop-f-preserved c =
    rw c.in_ok-push.ensures.items (made-more c.loop-f.all.items _ c.in-Some.f c.loop-f.rest.items c.pop_front.new.self.items _ (ap plain c.in_ok-new.ensures.ok) c.in-Some.ensures.items c.loop-f.invariant)

pub returns : goal.returns
returns c = made-done c.loop-f.all.items c.loop-f.rest.items _ (omega (arith, c.in_default.ensures.cases.0)) c.loop-f.invariant
