use Rattle.std.proofs.Common.{◌≡◌, map, take}
use Rattle.st_certificate.specs.Plain.{plain}
use Rattle.st_certificate.proofs.+copy.Given as goal

abbrev pub invariant-copy_all-loop-t : goal.invariant-copy_all-loop-t
invariant-copy_all-loop-t l = map plain l.out.items ≡ map plain (take l.t-index l.ts)
