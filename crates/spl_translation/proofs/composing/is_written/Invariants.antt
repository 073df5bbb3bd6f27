use Rattle.std.proofs.Common.{◌≡◌, true, drop}
use Rattle.st_program.specs.Groups.{are_written, is_written_number}
use Rattle.spl_translation.proofs.composing.is_written.Given as goal

abbrev pub invariant-loop-entry : goal.invariant-loop-entry
invariant-loop-entry l = record {
  constant : is_written_number l.form.constant ≡ true;
  entries : are_written l.form.entries ≡ are_written (drop l.entry-index l.form.entries);
}
