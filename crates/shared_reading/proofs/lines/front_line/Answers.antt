use Rattle.shared_reading.proofs.Splitting.{ended-line, last-line}
use Rattle.shared_reading.proofs.lines.front_line.Goals as goal

pub returns-in-empty-clause-lines : goal.returns-in-empty-clause-lines
returns-in-empty-clause-lines c = last-line _ _ _ _ c.requires c.line_len.ensures.is c.split_at.ensures.front c.split_at.ensures.back c.in-empty.len_below

pub returns-in-len1-up-clause-lines : goal.returns-in-len1-up-clause-lines
returns-in-len1-up-clause-lines c = ended-line _ _ _ _ c.requires c.line_len.ensures.is c.split_at.ensures.front c.split_at.ensures.back
