use Rattle.std.proofs.Common.{arith}
use Rattle.st_form.specs.Plain.{plain}
use Rattle.st_form.proofs.Bounding.{width-below}
use Rattle.linear_prover.proofs.guards.is_below.Goals as goal

pub returns : goal.returns
returns c = λ h. width-below c.args.count (plain c.args.form.now) (grind (arith, h))
