use Rattle.std.proofs.Common.{◌≡◌, ◌++◌, drop, map}
use Rattle.explanations.specs.Explained.{number_of}
use Rattle.explanations.proofs.explaining.numbers.Given as goal

abbrev pub invariant-loop-undecided : goal.invariant-loop-undecided
invariant-loop-undecided l = l.out.items ++ map number_of (drop l.undecided-index l.left) ≡ map number_of l.left
