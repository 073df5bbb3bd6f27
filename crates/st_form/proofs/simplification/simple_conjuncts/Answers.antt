use Rattle.std.proofs.Common.{◌<◌, ◌+◌, drop, length, ◌∙◌, sym, ap, true, arith}
use Rattle.std.specs.Option.{option_map}
use Rattle.st_form.specs.Plain.{plain, plain_list}
use Rattle.st_form.specs.Simple.{append, gathered, simple, simples, Decided, tabled}
use Rattle.st_form.proofs.Simples.{gathered-goes, gathered-stops, gathered-end, simples-more, modest-more}
use Rattle.st_form.proofs.simplification.simple_conjuncts.Goals as goal

pub loop-f-preserved : goal.loop-f-preserved
loop-f-preserved c =
    let d : Decided = tabled c.args.truths.now c.args.places.now in
    let at : c.loop-f.f-index < length c.args.fs.now = omega arith in
    let modest = modest-more c.args.fs.now c.loop-f.f-index c.f-item.result at c.f-item.is c.loop-f.invariant.modest in
    let more = simples-more d true c.args.fs.now c.loop-f.f-index c.f-item.result at c.f-item.is in
    let old = plain_list c.loop-f.out.items in
    let same = sym (ap (λ s. option_map (append old) (gathered true s)) more) ∙ c.loop-f.invariant.same in
    let takes = rw c.in_ok-part.ensures at c.in_ok-take_part.ensures in
    let rest = simples d (plain_list (drop (c.loop-f.f-index + 1) c.args.fs.now)) true in
    record { modest = modest.1; same = gathered-goes true c.in_ok-take_part.field-0 old (plain_list c.take_part.new.out.items) (simple d (plain c.f-item.result) true) rest _ takes c.if-not-branch.false same }

pub returns : goal.returns
returns c =
    sym (gathered-end (tabled c.args.truths.now c.args.places.now) true true c.args.fs.now _ c.loop-f.f-index _ c.loop-f-test.false c.loop-f.invariant.same)

pub returns-then-not-branch : goal.returns-then-not-branch
returns-then-not-branch c =
    let d : Decided = tabled c.args.truths.now c.args.places.now in
    let at : c.loop-f.f-index < length c.args.fs.now = omega arith in
    let more = simples-more d true c.args.fs.now c.loop-f.f-index c.f-item.result at c.f-item.is in
    let old = plain_list c.loop-f.out.items in
    let same = sym (ap (λ s. option_map (append old) (gathered true s)) more) ∙ c.loop-f.invariant.same in
    let takes = rw c.in_ok-part.ensures at c.in_ok-take_part.ensures in
    let rest = simples d (plain_list (drop (c.loop-f.f-index + 1) c.args.fs.now)) true in
    sym (gathered-stops true c.in_ok-take_part.field-0 old (plain_list c.take_part.new.out.items) (simple d (plain c.f-item.result) true) rest _ takes c.if-not-branch.true same)
