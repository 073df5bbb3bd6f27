use Rattle.std.proofs.Common.{◌≡◌, ◌≤◌, drop, length}
use Rattle.st_program.specs.Plain.{plain_targets}
use Rattle.spl_translation.specs.Translation.{numbers_of, truths_of}
use Rattle.spl_translation.specs.Making.{plain_truths}
use Rattle.spl_translation.proofs.right_sides.values_of.Given as goal

abbrev pub invariant-loop-left : goal.invariant-loop-left
invariant-loop-left l = record {
  inside : l.left ≤ length l.targets;
  numbers : l.values.numbers.items ≡ numbers_of (plain_targets (drop l.left l.targets));
  truths : plain_truths l.values.truths.items ≡ truths_of (plain_targets (drop l.left l.targets));
}

abbrev pub decreases-loop-left : goal.decreases-loop-left
decreases-loop-left l = l.left
