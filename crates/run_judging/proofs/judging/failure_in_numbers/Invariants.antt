use Rattle.std.proofs.Common.{◌≤◌, length}
use Rattle.run_judging.specs.Judging.{Responds}
use Rattle.run_judging.proofs.Sentences.{IsFirstFailureFrom, IsMostAhead}
use Rattle.run_judging.proofs.judging.failure_in_numbers.Given as goal

abbrev pub invariant-loop-position : goal.invariant-loop-position
invariant-loop-position l = record {
  within : l.position ≤ length l.counts;
  most : IsMostAhead l.target l.counts l.position l.most;
  failure : IsFirstFailureFrom l.position (length l.counts) (Responds l.premise l.target l.bounds l.counts) l.failure;
}

abbrev pub decreases-loop-position : goal.decreases-loop-position
decreases-loop-position l = l.position
