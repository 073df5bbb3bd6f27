use Rattle.std.proofs.Common.{ap, Some}
use Rattle.st_form.specs.Plain.{plain}
use Rattle.linear_prover.proofs.Lending.{each-end}
use Rattle.linear_prover.proofs.joining.with_one.Goals as goal

pub returns : goal.returns
returns c = rw (c.in_ok-push.ensures.items, c.requires) (ap (λ x. Some x) (each-end c.args.out.items _ (plain c.args.f) (ap plain c.in_ok-new.ensures.ok)))
