use Rattle.std.proofs.Common.{arith}
use Rattle.form_table.specs.Contents.{decision_at}
use Rattle.form_table.specs.Memory.{choices}
use Rattle.form_table.specs.Nodes.{formulas_in}
use Rattle.form_table.proofs.Restricting.{refuted-at}
use Rattle.form_table.proofs.refutations.is_refuted.Goals as goal

pub returns-then-is_denied : goal.returns-then-is_denied
returns-then-is_denied c e =
    refuted-at (decision_at (choices c.args.decisions.now) c.args.decision) (formulas_in c.args.store.now) c.args.parts.now c.loop-part.part-index (omega arith) (c.is_denied.ensures c.if-is_denied.true)
