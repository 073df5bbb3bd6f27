use Rattle.st_form.proofs.Comparing.{entries-same}
use Rattle.st_form.proofs.sameness.are_same_entries.Goals as goal

pub returns : goal.returns
returns c h = entries-same c.args.xs.now c.args.ys.now c.eq.result c.eq.ensures h
