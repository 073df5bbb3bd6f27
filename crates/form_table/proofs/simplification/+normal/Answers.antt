use Rattle.std.proofs.Common.{◌<◌, length, ap, ◌∙◌, arith}
use Rattle.std.proofs.lemmas.Result.{IfOk-weaker}
use Rattle.st_form.specs.Simple.{closed, nothing}
use Rattle.st_form.proofs.Simples.{modest-more}
use Rattle.form_table.specs.Table.{formula, listed}
use Rattle.form_table.specs.Nodes.{formulas_in}
use Rattle.form_table.proofs.Making.{extends-trans}
use Rattle.form_table.proofs.Taking.{goes-on, stops, ends, next-form, no-form, is-same}
use Rattle.form_table.proofs.simplification.+normal.Goals as goal

pub normal_all-loop-f-preserved : goal.normal_all-loop-f-preserved
normal_all-loop-f-preserved t c =
    let at : c.loop-f.f-index < length c.args.fs.now = omega arith in
    let modest = modest-more c.args.fs.now c.loop-f.f-index c.f-item.result at c.f-item.is c.loop-f.invariant.modest in
    let grown = c.in_ok-part.ensures.extends in
    let next = next-form nothing c.args.plus c.args.fs.now c.loop-f.f-index c.f-item.result (formula (formulas_in c.normal.new.pool.store) c.in_ok-part.part) at c.f-item.is c.in_ok-part.ensures.made.1 in
    record {
      modest = modest.1;
      extends = extends-trans _ _ _ c.loop-f.invariant.extends grown;
      there = c.in_ok-take_part.ensures.there;
      same = goes-on c.args.all c.in_ok-take_part.field-0 _ _ c.loop-f.out.items c.take_part.new.out.items c.in_ok-part.part _ _ _ grown c.loop-f.invariant.there next c.loop-f.invariant.same c.in_ok-take_part.ensures.takes c.if-not-branch.false;
    }

pub normal_all-returns-clause-extends : goal.normal_all-returns-clause-extends
normal_all-returns-clause-extends t c = extends-trans _ _ _ c.loop-f.invariant.extends c.closed.ensures.extends

pub normal_all-returns-clause-made : goal.normal_all-returns-clause-made
normal_all-returns-clause-made t c =
    IfOk-weaker c.closed.result _ _ (λ n h. is-same (formulas_in c.closed.new.pool.store) n _ _ (ap (λ o. closed c.args.all (listed (formulas_in c.loop-f.pool.store) o)) c.as_slice.ensures.value ∙ ends c.args.all _ _ _ (no-form nothing c.args.plus c.args.fs.now c.loop-f.f-index c.loop-f-test.false) c.loop-f.invariant.same) h) c.closed.ensures.made

pub normal_all-returns-then-not-branch-clause-extends : goal.normal_all-returns-then-not-branch-clause-extends
normal_all-returns-then-not-branch-clause-extends t c = extends-trans _ _ _ c.loop-f.invariant.extends c.in_ok-part.ensures.extends

pub normal_all-returns-then-not-branch-clause-made : goal.normal_all-returns-then-not-branch-clause-made
normal_all-returns-then-not-branch-clause-made t c =
    let at : c.loop-f.f-index < length c.args.fs.now = omega arith in
    let next = next-form nothing c.args.plus c.args.fs.now c.loop-f.f-index c.f-item.result (formula (formulas_in c.normal.new.pool.store) c.in_ok-part.part) at c.f-item.is c.in_ok-part.ensures.made.1 in
    is-same (formulas_in c.normal.new.pool.store) _ _ _ (stops c.args.all c.in_ok-take_part.field-0 _ _ c.loop-f.out.items c.take_part.new.out.items c.in_ok-part.part _ _ _ c.in_ok-part.ensures.extends c.loop-f.invariant.there next c.loop-f.invariant.same c.in_ok-take_part.ensures.takes c.if-not-branch.true) c.truth.ensures
