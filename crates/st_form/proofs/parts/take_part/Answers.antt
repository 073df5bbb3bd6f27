use Rattle.st_form.proofs.Nodes.{plain-True, plain-False}
use Rattle.st_form.proofs.Simples.{takes-true, takes-false}
use Rattle.st_form.proofs.parts.take_part.Goals as goal

pub returns-in-True : goal.returns-in-True
returns-in-True c = rw (c.in-True.is, plain-True) (takes-true c.args.all _)

pub returns-in-False : goal.returns-in-False
returns-in-False c = rw (c.in-False.is, plain-False) (takes-false c.args.all _)
