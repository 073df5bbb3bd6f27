use Rattle.std.proofs.Common.{◌<◌, ◌∙◌, ap, length, map, true, false, arith}
use Rattle.st_form.specs.Plain.{plain}
use Rattle.st_form.specs.Shared.{together}
use Rattle.st_form.specs.Simple.{nothing, simple}
use Rattle.form_table.specs.Table.{formula}
use Rattle.form_table.specs.Nodes.{formulas_in}
use Rattle.form_table.proofs.Beginning.{modest-case, next-case, no-case}
use Rattle.form_table.proofs.Making.{extends-trans}
use Rattle.form_table.proofs.Restricting.{ends-some}
use Rattle.form_table.proofs.Taking.{goes-on}
use Rattle.form_table.proofs.beginnings.gathered_cases.Goals as goal

pub loop-case-preserved : goal.loop-case-preserved
loop-case-preserved c =
    let at : c.loop-case.case-index < length c.args.cases.now = omega arith in
    let modest = modest-case c.args.cases.now c.loop-case.case-index c.case-item.result at c.case-item.is c.loop-case.invariant.modest in
    let grown = c.in_ok-part.ensures.extends in
    let made = c.in_ok-part.ensures.made.1 ∙ ap (λ fs. simple nothing (together (map plain fs)) false) c.as_slice.ensures.value in
    let next = next-case c.args.cases.now c.loop-case.case-index c.case-item.result (formula (formulas_in c.opposite.new.pool.store) c.in_ok-part.part) at c.case-item.is made in
    record {
      modest = modest.1;
      extends = extends-trans _ _ _ c.loop-case.invariant.extends grown;
      read = c.in_ok-part.ensures.read;
      there = c.in_ok-take_part.ensures.there;
      same = goes-on true c.in_ok-take_part.field-0 _ _ c.loop-case.out.items c.take_part.new.out.items c.in_ok-part.part _ _ _ grown c.loop-case.invariant.there next c.loop-case.invariant.same c.in_ok-take_part.ensures.takes c.if-not-branch.false;
    }

pub returns-clause-made : goal.returns-clause-made
returns-clause-made c =
    ends-some true _ _ _ (no-case c.args.cases.now c.loop-case.case-index c.loop-case-test.false) c.loop-case.invariant.same
