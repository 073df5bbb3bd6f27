use Rattle.cert_laws.proofs.MarksCount.{as-many}
use Rattle.cert_laws.proofs.MarksLimits.{marks-limits}
use Rattle.cert_laws.proofs.laws.marks_are_limits.Goals as goal

pub returns : goal.returns
returns c number second w p = (as-many number w, marks-limits second w p)
