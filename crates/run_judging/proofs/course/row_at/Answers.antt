use Rattle.std.proofs.Common.{sym, ◌∙◌}
use Rattle.run_judging.proofs.Looking.{flags_at-read}
use Rattle.run_judging.proofs.course.row_at.Goals as goal

pub returns : goal.returns
returns c = c.deref.ensures.value ∙ sym (flags_at-read c.args.rows.now c.args.position c.index-rows-position.result c.requires c.index-rows-position.is)
