use Rattle.std.proofs.Common.{◌≡◌, ◌-◌, ◌≤◌, length, take, drop, ap, sym, ◌∙◌, arith}
use Rattle.std.proofs.lemmas.List.{take_min, length-take}
use Rattle.source_lines.specs.Lines.{feeds, behind_feeds, last_line}
use Rattle.source_lines.proofs.Reaching.{before_place, feeds_le, position_is}
use Rattle.source_lines.proofs.lines.Lines.position.Goals as goal

pub overflow_sub-place : goal.overflow_sub-place
overflow_sub-place c =
    let text = c.args.self.now.text.now in
    let p = c.min-place.result in
    let at_begin : drop c.begin-begin.result text ≡ behind_feeds (feeds (take p text)) text = c.begin-begin.ensures.is ∙ ap (λ n. behind_feeds n text) c.feeds_before-feeds.ensures in
    (before_place text p c.begin-begin.result at_begin c.begin-begin.ensures.within (omega (arith, c.min-place.ensures))).0

pub overflow_add-result : goal.overflow_add-result
overflow_add-result c =
    let text = c.args.self.now.text.now in
    omega (arith, c.feeds_before-feeds.ensures, feeds_le (take c.min-place.result text), length-take c.min-place.result text)

pub returns : goal.returns
returns c =
    let text = c.args.self.now.text.now in
    let p = c.min-place.result in
    let at_begin : drop c.begin-begin.result text ≡ behind_feeds (feeds (take p text)) text = c.begin-begin.ensures.is ∙ ap (λ n. behind_feeds n text) c.feeds_before-feeds.ensures in
    let before = before_place text p c.begin-begin.result at_begin c.begin-begin.ensures.within (omega (arith, c.min-place.ensures)) in
    let is : c.split_at-2.result.0.now ≡ last_line (take p text) = c.split_at-2.ensures.front ∙ ap (take (p - c.begin-begin.result)) c.split_at.ensures.back ∙ before.1 in
    let same : take p text ≡ take c.args.place text = ap (λ n. take n text) c.min-place.ensures ∙ take_min c.args.place text in
    position_is text c.args.place p c.feeds_before-feeds.result c.total.result c.total-2.result c.split_at-2.result.0.now same is c.feeds_before-feeds.ensures c.total.ensures.is c.total-2.ensures.is
