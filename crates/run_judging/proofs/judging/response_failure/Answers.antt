use Rattle.std.proofs.Common.{◌∙◌, sym, ap, subst, length}
use Rattle.run_judging.specs.Greatest.{AreGreatestOpen}
use Rattle.run_judging.proofs.Sentences.{response-as}
use Rattle.run_judging.proofs.judging.response_failure.Goals as goal

pub returns : goal.returns
returns c = λ o p q e shows ps qs es.
    let read = c.deref.ensures.value in
    response-as o p q e c.args.premise.now c.args.target.now c.args.bounds.now c.deref.result.now
    (ap length read ∙ c.in_ok-counts.ensures.long ∙ shows.long) ps qs es
    (subst (λ l. AreGreatestOpen o c.args.target.now l) (sym read) (c.in_ok-counts.ensures.greatest o shows))
    c.failure_in_numbers.result c.failure_in_numbers.ensures
