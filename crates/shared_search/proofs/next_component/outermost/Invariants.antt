use Rattle.std.proofs.Common.{◌≡◌, length}
use Rattle.search_laws.specs.Moves.{or_else, outermost}
use Rattle.shared_search.proofs.next_component.outermost.Given as goal

abbrev pub invariant-loop-left : goal.invariant-loop-left
invariant-loop-left l = or_else (outermost l.parts l.cases l.left l.inner) l.best ≡ outermost l.parts l.cases (length l.parts) l.component

abbrev pub decreases-loop-left : goal.decreases-loop-left
decreases-loop-left l = l.left
