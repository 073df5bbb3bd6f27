use Rattle.std.proofs.Common.{arith}
use Rattle.source_lines.proofs.Feeds.{begin_at, begin_end}
use Rattle.source_lines.proofs.lines.begin.Goals as goal

pub overflow_add-result : goal.overflow_add-result
overflow_add-result c = omega (arith, (begin_at c.args.text.now c.args.found.now c.requires c.args.number (omega arith) (omega arith)).1)

pub returns-then-number-found-clause-is : goal.returns-then-number-found-clause-is
returns-then-number-found-clause-is c = (begin_at c.args.text.now c.args.found.now c.requires c.args.number (omega arith) (omega arith)).0

pub returns-then-number-found-clause-within : goal.returns-then-number-found-clause-within
returns-then-number-found-clause-within c = (begin_at c.args.text.now c.args.found.now c.requires c.args.number (omega arith) (omega arith)).1

pub returns-else-number-found-clause-is : goal.returns-else-number-found-clause-is
returns-else-number-found-clause-is c = begin_end c.args.text.now c.args.found.now c.requires c.args.number (omega arith)
