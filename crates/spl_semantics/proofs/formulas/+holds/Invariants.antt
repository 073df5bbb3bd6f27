use Rattle.std.proofs.Common.{◌≡◌, drop}
use Rattle.std.specs.Prelude.{◌&&◌, ◌||◌}
use Rattle.st_form.specs.Formula.{every_truth, some_truth}
use Rattle.st_form.specs.Plain.{plain_list}
use Rattle.spl_semantics.specs.Data.{store_of, seen_at}
use Rattle.spl_semantics.specs.Limits.{wide_formulas}
use Rattle.spl_semantics.proofs.formulas.+holds.Given as goal

abbrev pub invariant-all_true-loop-form : goal.invariant-all_true-loop-form
invariant-all_true-loop-form l = record {
  wide : wide_formulas (plain_list (drop l.form-index l.forms)) (store_of l.store) ≡ wide_formulas (plain_list l.forms) (store_of l.store);
  value : (l.all && every_truth (seen_at l.store l.fronts) (plain_list (drop l.form-index l.forms))) ≡ every_truth (seen_at l.store l.fronts) (plain_list l.forms);
}

abbrev pub invariant-any_true-loop-form : goal.invariant-any_true-loop-form
invariant-any_true-loop-form l = record {
  wide : wide_formulas (plain_list (drop l.form-index l.forms)) (store_of l.store) ≡ wide_formulas (plain_list l.forms) (store_of l.store);
  value : (l.any || some_truth (seen_at l.store l.fronts) (plain_list (drop l.form-index l.forms))) ≡ some_truth (seen_at l.store l.fronts) (plain_list l.forms);
}
