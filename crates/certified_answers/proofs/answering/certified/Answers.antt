use Rattle.std.proofs.Common.{refl}
use Rattle.step_plan.specs.declared.status.Status.TheVariants.{Proved}
use Rattle.certified_answers.proofs.Certifying.{enough-here}
use Rattle.certified_answers.proofs.answering.certified.Goals as goal

pub returns : goal.returns
returns c = λ pt qt of by all.
    enough-here c.certificates_are_enough.ensures pt qt c.args.posed.now.source c.args.posed.now.proof (record { status = Proved; text = c.in_ok-text.text }) of by all
    (record { proved = refl; said = c.in_ok-text.ensures })
