use Rattle.std.proofs.Common.{arith}
use Rattle.source_lines.proofs.Feeds.{counted}
use Rattle.source_lines.proofs.lines.Lines.count.Goals as goal

pub returns : goal.returns
returns c = omega (arith, counted c.args.self.now.text.now c.args.self.now.feeds.items c.args.self.now.found)
