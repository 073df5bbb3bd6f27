use Rattle.std.proofs.Common.{subst}
use Rattle.std.specs.Prelude.{Option, IfSome}
use Rattle.stronger_answers.specs.Stronger.{IsCheckedBy}
use Rattle.stronger_answers.proofs.verifying.certified.Goals as goal

pub returns-in-Some : goal.returns-in-Some
returns-in-Some g c = (c.in-Some.field-0-1, subst (λ o. IfSome o (λ p. IsCheckedBy c.args.texts.now p.0.items p.1)) c.in-Some.is c.in_ok-found.ensures)
