use Rattle.std.proofs.Common.{◌+◌, ◌≤◌, map}
use Rattle.st_certificate.specs.Plain.{plain}
use Rattle.certificate_versions.specs.Versions.{AreRead}
use Rattle.certificate_versions.proofs.sharing.read_all.Given as goal

abbrev pub invariant-loop-n : goal.invariant-loop-n
invariant-loop-n l = record {
  read : AreRead l.fn.reader (map plain l.out.items) l.reader;
  number : l.reader.number ≤ l.n + 1;
}
