use Rattle.std.proofs.Common.{◌<◌, ◌+◌, drop, length, ◌∙◌, sym, ap, arith}
use Rattle.std.specs.Option.{option_map}
use Rattle.st_form.specs.Plain.{plain, plain_list}
use Rattle.st_form.specs.Simple.{append, gathered, simple, simples, joined_parts, Decided, tabled}
use Rattle.st_form.proofs.Simples.{gathered-goes, gathered-end, simples-more, modest-more}
use Rattle.st_form.proofs.+simple.Goals as goal

pub simplification::simple_all-loop-f-preserved : goal.simplification::simple_all-loop-f-preserved
simplification::simple_all-loop-f-preserved t c =
    let d : Decided = tabled c.args.truths.now c.args.places.now in
    let at : c.loop-f.f-index < length c.args.fs.now = omega arith in
    let modest = modest-more c.args.fs.now c.loop-f.f-index c.f-item.result at c.f-item.is c.loop-f.invariant.modest in
    let more = simples-more d c.args.plus c.args.fs.now c.loop-f.f-index c.f-item.result at c.f-item.is in
    let old = plain_list c.loop-f.out.items in
    let same = sym (ap (λ s. option_map (append old) (gathered c.args.all s)) more) ∙ c.loop-f.invariant.same in
    let takes = rw c.in_ok-part.ensures at c.in_ok-take_part.ensures in
    let rest = simples d (plain_list (drop (c.loop-f.f-index + 1) c.args.fs.now)) c.args.plus in
    record { modest = modest.1; same = gathered-goes c.args.all c.in_ok-take_part.field-0 old (plain_list c.take_part.new.out.items) (simple d (plain c.f-item.result) c.args.plus) rest _ takes c.if-not-branch.false same }

pub simplification::simple_all-returns : goal.simplification::simple_all-returns
simplification::simple_all-returns t c =
    let whole = gathered-end (tabled c.args.truths.now c.args.places.now) c.args.all c.args.plus c.args.fs.now _ c.loop-f.f-index _ c.loop-f-test.false c.loop-f.invariant.same in
    c.closed.ensures ∙ sym (ap (joined_parts c.args.all) whole)
