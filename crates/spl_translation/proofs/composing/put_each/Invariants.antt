use Rattle.std.proofs.Common.{◌≡◌, length}
use Rattle.st_program.specs.Plain.{plain_targets}
use Rattle.spl_translation.specs.Making.{plain_truths}
use Rattle.spl_translation.specs.Composing.{put_numbers, put_truths}
use Rattle.spl_translation.proofs.composing.put_each.Given as goal

abbrev pub invariant-loop-var : goal.invariant-loop-var
invariant-loop-var l = record {
  numbers : put_numbers (plain_targets l.rest.items) l.values.numbers.items ≡ put_numbers (plain_targets l.fn.terms.items) l.fn.values.numbers.items;
  truths : put_truths (plain_targets l.rest.items) (plain_truths l.values.truths.items) ≡ put_truths (plain_targets l.fn.terms.items) (plain_truths l.fn.values.truths.items);
}

abbrev pub decreases-loop-var : goal.decreases-loop-var
decreases-loop-var l = length l.rest.items
