use Rattle.std.proofs.Common.{◌<◌, ◌∙◌, ◌++◌, arith, ap, sym, length, append-nil}
use Rattle.nested_net.proofs.Reading.{pairs-next, pairs-end, moved-on}
use Rattle.nested_net.proofs.levels.push_pairs.Goals as goal

pub loop-index-preserved : goal.loop-index-preserved
loop-index-preserved c =
    let below : c.loop-index.index < c.args.depth = omega (arith, c.loop-index-test.true, c.min.ensures, c.min-both.ensures) in
    let low : c.loop-index.index < length c.args.levels.now = omega (arith, c.loop-index-test.true, c.min.ensures, c.min-both.ensures) in
    let high : c.loop-index.index < length c.args.other.now = omega (arith, c.loop-index-test.true, c.min.ensures, c.min-both.ensures) in
    let next = pairs-next c.args.depth c.loop-index.index c.args.levels.now c.args.other.now c.index-levels-index.result c.index-other-index.result below low high c.index-levels-index.is c.index-other-index.is in
    moved-on c.loop-index.falls.items c.push_pair.new.falls.items _ _ _ _ c.in_ok-push_pair.ensures next c.loop-index.invariant

pub returns : goal.returns
returns c =
    let none = pairs-end c.args.depth c.loop-index.index c.args.levels.now c.args.other.now (omega (arith, c.loop-index-test.false, c.min.ensures, c.min-both.ensures)) in
    sym (append-nil c.loop-index.falls.items) ∙ ap (λ ps. c.loop-index.falls.items ++ ps) (sym none) ∙ c.loop-index.invariant
