use Rattle.std.proofs.Common.{◌≡◌, ◌-◌, ◌≤◌, length, take, drop, ap, sym, ◌∙◌, arith}
use Rattle.source_lines.specs.Lines.{behind_feeds, line_in, first_line, reach}
use Rattle.source_lines.proofs.Reaching.{reached}
use Rattle.source_lines.proofs.lines.Lines.place_behind.Goals as goal

pub returns-clause-is : goal.returns-clause-is
returns-clause-is c p is =
    let text = c.args.self.now.text.now in
    let begin = c.begin-begin.result in
    let at_begin : drop begin text ≡ behind_feeds (c.args.line - 1) text = grind (arith, c.begin-begin.ensures.is) in
    let rest : c.split_at.result.1.now ≡ behind_feeds (c.args.line - 1) text = c.split_at.ensures.back ∙ at_begin in
    let line_is : c.split_at-2.result.0.now ≡ line_in text c.args.line =
    c.split_at-2.ensures.front ∙ ap (λ n. take n c.split_at.result.1.now) c.line_len.ensures.is ∙ ap first_line rest in
    let there : c.reach.result ≡ reach c.args.units c.args.count (line_in text c.args.line) = c.reach.ensures.is ∙ ap (reach c.args.units c.args.count) line_is in
    omega (arith, there, reached text c.args.units c.args.line c.args.count p begin is at_begin c.begin-begin.ensures.within)
