use Rattle.std.proofs.Common.{rules, of_calls, nat_lt}
use Rattle.std.proofs.lemmas.Fn.{always_returns_same}
use Rattle.source_lines.proofs.Feeds.{are_halved, point_counts}
use Rattle.source_lines.proofs.lines.feeds_before.Goals as goal

pub returns : goal.returns
returns c =
    let text = c.args.text.now in
    let found = c.args.found.now in
    let point = c.partition_point.ensures.partitioned (λ f. nat_lt f c.args.place) (always_returns_same _ _ _ (λ a r f k. search (rules, of_calls))) (are_halved text found c.requires c.args.place) in
    point_counts text found c.requires c.args.place c.partition_point.result c.partition_point.ensures.bound point
