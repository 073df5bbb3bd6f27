use Rattle.std.proofs.Common.{arith}
use Rattle.certificate_sharing.specs.Sharing.{trees_in}
use Rattle.certificate_sharing.proofs.Growing.{taken-more}
use Rattle.certificate_sharing.proofs.entering.+enter.Goals as goal

pub enter_all-loop-certificate-preserved : goal.enter_all-loop-certificate-preserved
enter_all-loop-certificate-preserved t c =
    taken-more (trees_in c.args.table.now) (trees_in c.loop-certificate.table) (trees_in c.enter.new.table) c.args.certificates.now c.loop-certificate.certificate-index _ c.loop-certificate.out.items c.push.new.self.items c.in_ok-number.number
    (omega arith) c.certificate-item.is c.in_ok-push.ensures.items c.loop-certificate.invariant c.in_ok-number.ensures
