use Rattle.run_judging.proofs.Demanding.{demand-more, demand-less}
use Rattle.run_judging.proofs.demands.demand.Goals as goal

pub returns-then-demands-from : goal.returns-then-demands-from
returns-then-demands-from c = λ l within. (
  demand-more c.args.demands.now c.args.from c.args.until c.if-from-demands.true c.if-demands-from.true l,
  λ h. demand-less c.args.demands.now c.args.from c.args.until c.if-from-demands.true l h.0 h.1,
)
