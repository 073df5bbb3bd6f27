use Rattle.std.proofs.Common.{arith, ◌∙◌}
use Rattle.spl_typer.proofs.Inserting.{put_here}
use Rattle.spl_typer.proofs.numbers.insert.Goals as goal

pub returns-then-index-var-2 : goal.returns-then-index-var-2
returns-then-index-var-2 g c =
    put_here c.args.list.now.items c.loop-i.i c.args.var c.args.value _ _ (omega arith) c.index_mut.ensures.value c.index-then-i-len.ensures c.if-index-var-2.true
    ∙ c.loop-i.invariant.same
