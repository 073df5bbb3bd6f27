use Rattle.std.proofs.Common.{ap, ◌∙◌, subst, sym}
use Rattle.shared_certificates.specs.Lines.{words}
use Rattle.shared_certificates.specs.Views.{IsTrimmed}
use Rattle.shared_reading.proofs.Splitting.{behind-blanks, is-trimmed}
use Rattle.shared_reading.proofs.words.trimmed.Goals as goal

pub returns-clause-same : goal.returns-clause-same
returns-clause-same c = rw (c.split_at.ensures.back, c.blanks_len.ensures.is) (behind-blanks c.args.line.now)

pub returns-clause-trimmed : goal.returns-clause-trimmed
returns-clause-trimmed c = rw (c.split_at.ensures.back, c.blanks_len.ensures.is) (is-trimmed c.args.line.now)
