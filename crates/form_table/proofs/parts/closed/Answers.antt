use Rattle.std.proofs.lemmas.Result.{IfOk-weaker}
use Rattle.form_table.specs.Nodes.{formulas_in}
use Rattle.form_table.proofs.Taking.{closed-two, is-same}
use Rattle.form_table.proofs.parts.closed.Goals as goal

pub returns-in_default-clause-made : goal.returns-in_default-clause-made
returns-in_default-clause-made c =
    IfOk-weaker c.join.result _ _ (λ n h. is-same (formulas_in c.join.new.pool.store) n _ _ (closed-two c.args.all (formulas_in c.args.pool.now.store) c.args.parts.now c.in_default.len_at_least) h) c.join.ensures.made
