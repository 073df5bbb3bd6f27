use Rattle.std.proofs.Common.{◌<◌, length, map, take}
use Rattle.form_table.specs.Contents.{Grows, formulas_of}
use Rattle.form_table.specs.Lists.{conjuncts_of}
use Rattle.sharing_laws.specs.Contexts.{in_context}
use Rattle.shared_search.specs.Contexts.{ContextTable, context_at}
use Rattle.shared_search.specs.Lists.{AreChildren, under_each}
use Rattle.shared_search.proofs.lists.under_each.Given as goal

abbrev pub invariant-loop-decision : goal.invariant-loop-decision
invariant-loop-decision l = record {
  grows : Grows l.fn.table l.table;
  listed : (cs : ContextTable) → l.key.context < length cs
      → AreChildren (formulas_of l.table) cs l.out.items (map (in_context (context_at cs l.key.context)) (under_each l.fn.table.decisions (conjuncts_of (formulas_of l.fn.table) l.key.list) (take l.decision-index l.decisions)));
}
