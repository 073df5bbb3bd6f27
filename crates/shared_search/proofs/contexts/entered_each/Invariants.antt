use Rattle.std.proofs.Common.{map, take}
use Rattle.shared_search.specs.Contexts.{AreContexts, Keeps, context_at, entered}
use Rattle.shared_search.proofs.contexts.entered_each.Given as goal

abbrev pub invariant-loop-choice : goal.invariant-loop-choice
invariant-loop-choice l = record {
  keeps : Keeps l.fn.contexts.kept.items l.contexts.kept.items;
  made : AreContexts l.contexts.kept.items l.out.items (map (entered (context_at l.fn.contexts.kept.items l.context) l.component) (take l.choice-index l.choices));
}
