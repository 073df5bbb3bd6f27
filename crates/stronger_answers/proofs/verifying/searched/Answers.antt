use Rattle.std.proofs.Common.{subst, inr}
use Rattle.std.specs.Prelude.{Option, IfSome}
use Rattle.stronger_answers.specs.Stronger.{IsCheckedBy}
use Rattle.stronger_answers.proofs.verifying.searched.Goals as goal

pub returns-in-Some : goal.returns-in-Some
returns-in-Some g c =
    inr (record {
      first = c.in_ok-first.first;
      number = c.in-NotProved.number;
      searched = record { outcome = c.in_ok-first.ensures.outcome; headline = c.in_ok-first.ensures.headline; exact = c.in_ok-first.ensures.exact };
      left_open = c.in-NotProved.is;
      certificates = c.in-Some.field-0-0.items;
      checked = subst (λ o. IfSome o (λ p. IsCheckedBy c.args.texts.now p.0.items p.1)) c.in-Some.is c.in_ok-second.ensures;
    })
