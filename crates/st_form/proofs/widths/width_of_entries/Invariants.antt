use Rattle.std.proofs.Common.{◌≡◌, max, drop}
use Rattle.st_form.specs.Forms.{entries_width}
use Rattle.st_form.proofs.widths.width_of_entries.Given as goal

abbrev pub invariant-loop-entry : goal.invariant-loop-entry
invariant-loop-entry l = max l.most (entries_width (drop l.entry-index l.entries)) ≡ entries_width l.entries
