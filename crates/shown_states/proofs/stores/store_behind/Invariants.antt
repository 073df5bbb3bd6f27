use Rattle.std.proofs.Common.{◌≡◌, ℕ, ◌<◌, false, length}
use Rattle.std.specs.Prelude.{slice_get}
use Rattle.std.specs.Option.{option_map}
use Rattle.st_form.specs.Plain.{plain_change}
use Rattle.spl_semantics.specs.Data.{store_of}
use Rattle.shown_states.specs.Pictures.{seen}
use Rattle.shown_states.specs.Behind.{datum_behind, wide_for}
use Rattle.shown_states.proofs.stores.store_behind.Given as goal

abbrev pub invariant-loop-variable : goal.invariant-loop-variable
invariant-loop-variable l = record {
  long : length l.store.items ≡ l.variable;
  values : (k : ℕ) → k < l.variable → slice_get l.store.items k ≡ option_map (datum_behind (plain_change l.change) (seen l.before) k) (slice_get l.before.store.items k);
  narrow : (k : ℕ) → k < l.variable → wide_for (plain_change l.change) (store_of l.before.store.items) k ≡ false;
}
