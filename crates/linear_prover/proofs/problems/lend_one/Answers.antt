use Rattle.std.proofs.Common.{refl}
use Rattle.st_form.specs.Plain.{plain}
use Rattle.linear_prover.proofs.Lending.{each-end}
use Rattle.linear_prover.proofs.problems.lend_one.Goals as goal

pub returns : goal.returns
returns c = rw c.in_ok-push.ensures.items (each-end c.args.out.items _ (plain c.args.f.now) refl)
