use Rattle.linear_prover.specs.Plain.{plain_each}
use Rattle.linear_prover.proofs.Lending.{true-part}
use Rattle.linear_prover.proofs.joining.with_part.Goals as goal

pub returns-in-True : goal.returns-in-True
returns-in-True c = true-part (plain_each c.args.out.items) c.args.part c.in-True.is
