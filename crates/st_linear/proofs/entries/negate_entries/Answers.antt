use Rattle.std.proofs.Common.{arith}
use Rattle.st_linear.proofs.Joins.{are_small-at}
use Rattle.st_linear.proofs.entries.negate_entries.Goals as goal

pub negated_number-requires : goal.negated_number-requires
negated_number-requires c = are_small-at _ _ c.requires (omega arith)
