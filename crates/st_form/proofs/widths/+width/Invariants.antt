use Rattle.std.proofs.Common.{◌≡◌, max, drop}
use Rattle.st_form.specs.Forms.{AllFormsOf, HasEntries, width_of}
use Rattle.st_form.specs.Plain.{plain_list}
use Rattle.st_form.proofs.widths.+width.Given as goal

abbrev pub invariant-width_of_all-loop-form : goal.invariant-width_of_all-loop-form
invariant-width_of_all-loop-form l = record {
  same : max l.most (width_of (plain_list (drop l.form-index l.forms))) ≡ width_of (plain_list l.forms);
  proper : AllFormsOf HasEntries (plain_list (drop l.form-index l.forms)) → AllFormsOf HasEntries (plain_list l.forms);
}
