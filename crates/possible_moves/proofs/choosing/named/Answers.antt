use Rattle.std.proofs.Common.{arith}
use Rattle.possible_moves.proofs.Listed.{offered}
use Rattle.possible_moves.proofs.choosing.named.Goals as goal

pub returns-then-eq : goal.returns-then-eq
returns-then-eq c =
    offered c.args.moves.now c.loop-listed.listed-index c.listed-item.result c.as_str-then-eq.result.now c.as_str-then-eq.ensures.value c.listed-item.is (omega (arith, c.loop-listed-test.true))
