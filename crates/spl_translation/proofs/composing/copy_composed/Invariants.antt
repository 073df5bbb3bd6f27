use Rattle.std.proofs.Common.{◌≡◌, take}
use Rattle.spl_translation.specs.Making.{plain_truths}
use Rattle.spl_translation.proofs.composing.copy_composed.Given as goal

abbrev pub invariant-loop-pair : goal.invariant-loop-pair
invariant-loop-pair l = l.numbers.items ≡ take l.pair-index l.composed.values.numbers.items

abbrev pub invariant-loop-pair-2 : goal.invariant-loop-pair-2
invariant-loop-pair-2 l = record {
  numbers : l.numbers.items ≡ l.composed.values.numbers.items;
  truths : plain_truths l.truths.items ≡ plain_truths (take l.pair-index l.composed.values.truths.items);
}
