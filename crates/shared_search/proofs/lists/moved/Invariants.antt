use Rattle.std.proofs.Common.{◌≡◌, ◌++◌, drop}
use Rattle.shared_search.specs.Lists.{moved}
use Rattle.shared_search.proofs.lists.moved.Given as goal

abbrev pub invariant-loop-place : goal.invariant-loop-place
invariant-loop-place l = l.out.items ++ moved (drop l.place l.contexts) (drop l.place l.children) ≡ moved l.contexts l.children
