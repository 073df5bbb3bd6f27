use Rattle.std.proofs.Common.{◌≡◌, ◌==◌, ◌<◌, arith, sym, length, true, false}
use Rattle.std.proofs.lemmas.Bool.Decides.{nat_tests}
use Rattle.nested_net.proofs.Reading.{too-few, too-few-others, agree-next, differ, same-so-far}
use Rattle.nested_net.proofs.levels.agree.Goals as goal

pub returns-then-levels-depth : goal.returns-then-levels-depth
returns-then-levels-depth c = sym (too-few c.args.depth c.args.levels.now c.args.other.now (omega arith))

pub returns-then-other-depth : goal.returns-then-other-depth
returns-then-other-depth c = sym (too-few-others c.args.depth c.args.levels.now c.args.other.now (omega arith))

pub returns-then-other-index : goal.returns-then-other-index
returns-then-other-index c =
    let l = c.index-levels-index.result in
    let m = c.index-other-index.result in
    let low : c.loop-index.index < length c.args.levels.now = omega (arith, c.if-levels-depth.false, c.loop-index-test.true) in
    let high : c.loop-index.index < length c.args.other.now = omega (arith, c.if-other-depth.false, c.loop-index-test.true) in
    let next = agree-next c.args.depth c.loop-index.index c.args.levels.now c.args.other.now l m c.loop-index-test.true low high c.index-levels-index.is c.index-other-index.is in
    let apart : (m.group == l.group) ≡ false = grind (arith, nat_tests) in
    differ (m.group == l.group) _ _ _ next c.loop-index.invariant apart

pub loop-index-preserved : goal.loop-index-preserved
loop-index-preserved c =
    let l = c.index-levels-index.result in
    let m = c.index-other-index.result in
    let low : c.loop-index.index < length c.args.levels.now = omega (arith, c.if-levels-depth.false, c.loop-index-test.true) in
    let high : c.loop-index.index < length c.args.other.now = omega (arith, c.if-other-depth.false, c.loop-index-test.true) in
    let next = agree-next c.args.depth c.loop-index.index c.args.levels.now c.args.other.now l m c.loop-index-test.true low high c.index-levels-index.is c.index-other-index.is in
    let same : (m.group == l.group) ≡ true = grind (arith, nat_tests) in
    same-so-far (m.group == l.group) _ _ _ next c.loop-index.invariant same
