use Rattle.std.proofs.Common.{subst, inr, refl}
use Rattle.std.specs.Prelude.{Option, IfSome}
use Rattle.stronger_answers.specs.Stronger.{IsAccepted}
use Rattle.stronger_answers.proofs.verifying.proved.Goals as goal

pub returns-in-Some : goal.returns-in-Some
returns-in-Some g c =
    inr (record {
      first = c.in_ok-first.first;
      number = c.in-NotProved.number;
      searched = record { outcome = c.in_ok-first.ensures.outcome; headline = c.in_ok-first.ensures.headline; exact = c.in_ok-first.ensures.exact };
      left_open = c.in-NotProved.is;
      proved = refl;
      accepted = subst (λ o. IfSome o (λ v. IsAccepted c.args.texts.now v.items)) c.in-Some.is c.in_ok-text.ensures;
    })
