use Rattle.std.proofs.Common.{◌≡◌, ◌++◌, map, drop}
use Rattle.st_form.specs.Plain.{plain}
use Rattle.spl_semantics.specs.Data.{seen_at}
use Rattle.trace_player.specs.Columns.{some_wide, row_of}
use Rattle.trace_player.proofs.columns.row.Given as goal

abbrev pub invariant-loop-form : goal.invariant-loop-form
invariant-loop-form l = record {
  wide : some_wide (map plain (drop l.form-index l.forms)) (seen_at l.store l.fronts) ≡ some_wide (map plain l.forms) (seen_at l.store l.fronts);
  value : l.row.items ++ row_of (map plain (drop l.form-index l.forms)) (seen_at l.store l.fronts) ≡ row_of (map plain l.forms) (seen_at l.store l.fronts);
}
