use Rattle.std.proofs.Common.{◌≡◌, length, drop}
use Rattle.spl_semantics.specs.Data.{StoreFits}
use Rattle.spl_semantics.proofs.fitting.store_fits.Given as goal

abbrev pub invariant-loop-index : goal.invariant-loop-index
invariant-loop-index l = record {
  same : length l.fn.variables ≡ length l.fn.store;
  grown : StoreFits (drop l.index l.fn.variables) (drop l.index l.fn.store) → StoreFits l.fn.variables l.fn.store;
  part : StoreFits l.fn.variables l.fn.store → StoreFits (drop l.index l.fn.variables) (drop l.index l.fn.store);
}
