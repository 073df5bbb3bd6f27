use Rattle.std.proofs.Common.{arith}
use Rattle.diagram_conditions.proofs.Numbers.{never-too-large, number-made}
use Rattle.diagram_conditions.proofs.ranks.number.Goals as goal

pub unreachable-requires : goal.unreachable-requires
unreachable-requires c = never-too-large c.args.value c.from.result (omega arith) c.from.ensures (rw c.in-Err-TooLarge.field-0-is at c.in-Err-TooLarge.ensures)

pub returns-in-Ok : goal.returns-in-Ok
returns-in-Ok c = number-made c.args.value c.from.result c.in-Ok.form (omega arith) c.from.ensures c.in-Ok.ensures
