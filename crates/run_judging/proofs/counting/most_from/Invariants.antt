use Rattle.run_judging.specs.Paying.{IsMost}
use Rattle.run_judging.proofs.Demanding.{IsOwed}
use Rattle.run_judging.proofs.counting.most_from.Given as goal

abbrev pub invariant-loop-position : goal.invariant-loop-position
invariant-loop-position l = record {
  owed : IsOwed l.demands l.position l.owed;
  most : IsMost l.demands l.counts l.position l.most;
}
