use Rattle.std.proofs.Common.{◌≡◌, ◌++◌, map, drop}
use Rattle.shared_search.specs.Lists.{child_at}
use Rattle.shared_search.proofs.lists.none_false.Given as goal

abbrev pub invariant-loop-list : goal.invariant-loop-list
invariant-loop-list l = l.out.items ++ map (child_at l.context) (drop l.list-index l.lists) ≡ map (child_at l.context) l.lists
