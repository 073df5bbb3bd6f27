use Rattle.std.proofs.Common.{◌≡◌, drop}
use Rattle.st_program.specs.Names.{as_bytes, label_of}
use Rattle.st_program.proofs.names.location_label.Given as goal

abbrev pub invariant-loop-index : goal.invariant-loop-index
invariant-loop-index l = label_of l.fn.loc (as_bytes (drop l.index l.fn.labels.entries)) ≡ label_of l.fn.loc (as_bytes l.fn.labels.entries)
