use Rattle.std.proofs.Common.{◌∙◌}
use Rattle.constant_facts.proofs.Loops.{decided-by}
use Rattle.constant_facts.proofs.keeping.decided.Goals as goal

pub returns : goal.returns
returns c =
    decided-by c.args.components.now c.args.places.now c.deref.result.now c.in_ok-table.table.items
    (c.deref.ensures.value ∙ (rw (c.owners.ensures, c.count.ensures) at c.in_ok-cases.ensures))
    c.in_ok-table.ensures.exact
