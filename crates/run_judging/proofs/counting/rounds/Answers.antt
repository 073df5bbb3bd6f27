use Rattle.std.proofs.Common.{◌≡◌, length}
use Rattle.std.specs.Prelude.{[]}
use Rattle.observations.specs.Observation.{Observation}
use Rattle.st_form.specs.Formula.{Situation}
use Rattle.run_judging.specs.Shown.{Shows}
use Rattle.run_judging.specs.Greatest.{AreGreatest, AreGreatestOpen}
use Rattle.run_judging.proofs.Backwards.{unbarred, both-ok}
use Rattle.run_judging.proofs.counting.rounds.Goals as goal

pub returns : goal.returns
returns c = both-ok c.rounds_before.result
    (λ counts. length counts.items ≡ length c.args.course.now.enabled.items)
    (λ counts. (o : Observation Situation) → Shows c.args.course.now o → AreGreatestOpen o [] counts.items)
    (λ counts. (o : Observation Situation) → Shows c.args.course.now o → AreGreatest o counts.items)
    c.rounds_before.ensures.long c.rounds_before.ensures.greatest
    (λ counts long greatest o shows. unbarred o c.args.course.now counts.items long shows (greatest o shows))
