use Rattle.std.proofs.Common.{◌≡◌, length}
use Rattle.shared_search.specs.Contexts.{AreInside}
use Rattle.shared_search.proofs.insides.all_insides.Given as goal

abbrev pub invariant-loop-component : goal.invariant-loop-component
invariant-loop-component l = record {
  size : l.component ≡ length l.out.items;
  kept : AreInside l.components l.out.items;
}
