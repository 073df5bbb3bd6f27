use Rattle.std.proofs.Common.{◌∙◌, ◌++◌, arith, ap, sym, map}
use Rattle.st_form.specs.Plain.{plain}
use Rattle.nested_net.proofs.Reading.{ranked-next, ranked-end, moved-on}
use Rattle.nested_net.proofs.forms.ranked_forms.Goals as goal

pub loop-index-preserved : goal.loop-index-preserved
loop-index-preserved c =
    let next = ranked-next c.args.levels.now c.loop-index.index c.index-levels-index.result c.args.delay.now c.loop-index-test.true c.index-levels-index.is in
    moved-on (map plain c.loop-index.forms.items) (map plain c.push_ranked.new.forms.items) _ _ _ _ (rw c.top_at-inner.ensures at c.in_ok-push_ranked.ensures) next c.loop-index.invariant

pub returns : goal.returns
returns c =
    let end = ranked-end c.args.levels.now c.loop-index.index c.args.delay.now (omega (arith, c.loop-index-test.false)) in
    c.in_ok-push_row.ensures ∙ ap (λ fs. map plain c.loop-index.forms.items ++ fs) (sym end) ∙ c.loop-index.invariant
