use Rattle.std.proofs.Common.{◌∙◌, ap, arith, subst, sym, true}
use Rattle.st_form.specs.Formula.{every}
use Rattle.st_form.specs.Simple.{parts}
use Rattle.form_table.specs.Table.{AreThere, listed}
use Rattle.form_table.specs.Nodes.{formulas_in}
use Rattle.form_table.specs.Lists.{conjuncts_of}
use Rattle.form_table.proofs.Making.{below-there}
use Rattle.form_table.proofs.Rowing.{row-joins}
use Rattle.form_table.proofs.Taking.{is-same}
use Rattle.form_table.proofs.joining.with_row.Goals as goal

pub returns-clause-made : goal.returns-clause-made
returns-clause-made c =
    let ts = formulas_in c.args.pool.now.store in
    let us = formulas_in c.signed_row.new.pool.store in
    let vs = formulas_in c.join.new.pool.store in
    let there = below-there c.args.list ts c.conjuncts.result.now (omega (arith, c.requires.list.0)) c.conjuncts.ensures.below in
    row-joins ts us vs (conjuncts_of ts c.args.list) c.in_ok-out.out.items c.take_part.new.out.items c.in_ok-take_part.field-0 _ _ c.in_ok-number.number (parts true)
    c.in_ok-row.ensures.extends (subst (AreThere ts) (sym c.in_ok-out.ensures.items) there) (ap (listed ts) c.in_ok-out.ensures.items ∙ c.conjuncts.ensures.exact) c.in_ok-row.ensures.made.1
    c.in_ok-take_part.ensures.takes c.if-not-branch.false (is-same vs c.in_ok-number.number _ _ (ap (λ o. every (listed us o)) c.as_slice.ensures.value) c.in_ok-number.ensures.made)
