use Rattle.std.proofs.Common.{◌<◌, length, arith}
use Rattle.st_form.specs.Simple.{nothing}
use Rattle.st_form.proofs.Simples.{modest-more}
use Rattle.form_table.specs.Table.{formula}
use Rattle.form_table.specs.Nodes.{formulas_in}
use Rattle.form_table.proofs.Making.{extends-trans}
use Rattle.form_table.proofs.Restricting.{ends-some}
use Rattle.form_table.proofs.Taking.{goes-on, next-form, no-form}
use Rattle.form_table.proofs.beginnings.gathered_forms.Goals as goal

pub loop-form-preserved : goal.loop-form-preserved
loop-form-preserved c =
    let at : c.loop-form.form-index < length c.args.forms.now = omega arith in
    let modest = modest-more c.args.forms.now c.loop-form.form-index c.form-item.result at c.form-item.is c.loop-form.invariant.modest in
    let grown = c.in_ok-part.ensures.extends in
    let next = next-form nothing c.args.plus c.args.forms.now c.loop-form.form-index c.form-item.result (formula (formulas_in c.read.new.pool.store) c.in_ok-part.part) at c.form-item.is c.in_ok-part.ensures.made.1 in
    record {
      modest = modest.1;
      extends = extends-trans _ _ _ c.loop-form.invariant.extends grown;
      read = c.in_ok-part.ensures.read;
      there = c.in_ok-take_part.ensures.there;
      same = goes-on c.args.all c.in_ok-take_part.field-0 _ _ c.loop-form.out.items c.take_part.new.out.items c.in_ok-part.part _ _ _ grown c.loop-form.invariant.there next c.loop-form.invariant.same c.in_ok-take_part.ensures.takes c.if-not-branch.false;
    }

pub returns-clause-made : goal.returns-clause-made
returns-clause-made c =
    ends-some c.args.all _ _ _ (no-form nothing c.args.plus c.args.forms.now c.loop-form.form-index c.loop-form-test.false) c.loop-form.invariant.same
