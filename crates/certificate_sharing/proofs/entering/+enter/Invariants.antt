use Rattle.std.proofs.Common.{map, take}
use Rattle.st_certificate.specs.Plain.{plain}
use Rattle.certificate_sharing.specs.Sharing.{HasAll, trees_in}
use Rattle.certificate_sharing.proofs.entering.+enter.Given as goal

abbrev pub invariant-enter_all-loop-certificate : goal.invariant-enter_all-loop-certificate
invariant-enter_all-loop-certificate l = HasAll (trees_in l.fn.table) (trees_in l.table) l.out.items (map plain (take l.certificate-index l.certificates))
