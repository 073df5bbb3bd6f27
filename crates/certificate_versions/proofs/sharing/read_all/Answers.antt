use Rattle.certificate_versions.proofs.Reading.{few-more, kept-more}
use Rattle.certificate_versions.proofs.sharing.read_all.Goals as goal

pub loop-n-preserved : goal.loop-n-preserved
loop-n-preserved c = record {
  read = kept-more c.args.reader.now c.loop-n.reader c.next.new.reader c.loop-n.out.items c.in-Some.certificate _ c.push.new.self.items c.loop-n.invariant.read c.in_ok-certificate.ensures.next c.in-Some.is c.in_ok-certificate.ensures.taken c.in_ok-push-in-Some.ensures.items;
  number = few-more c.loop-n.reader c.next.new.reader c.loop-n.n c.in_ok-certificate.ensures.taken c.loop-n.invariant.number;
}
