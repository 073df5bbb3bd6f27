use Rattle.std.proofs.Common.{◌≡◌, drop}
use Rattle.st_program.specs.Names.{as_bytes, statement_label}
use Rattle.st_program.proofs.names.occurrence_label.Given as goal

abbrev pub invariant-loop-index : goal.invariant-loop-index
invariant-loop-index l = statement_label l.fn.occ (as_bytes (drop l.index l.fn.labels.entries)) ≡ statement_label l.fn.occ (as_bytes l.fn.labels.entries)
