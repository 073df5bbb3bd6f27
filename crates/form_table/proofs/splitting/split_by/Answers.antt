use Rattle.std.proofs.Common.{ap, arith}
use Rattle.st_form.specs.Formula.{every}
use Rattle.form_table.specs.Table.{listed}
use Rattle.form_table.specs.Nodes.{formulas_in}
use Rattle.form_table.proofs.Making.{extends-trans}
use Rattle.form_table.proofs.Placing.{split-more}
use Rattle.form_table.proofs.Taking.{is-same}
use Rattle.form_table.proofs.splitting.split_by.Goals as goal

pub loop-part-preserved : goal.loop-part-preserved
loop-part-preserved c = record {
  extends = extends-trans _ _ _ c.loop-part.invariant.extends c.in_ok-list.ensures.extends;
  lists = split-more (formulas_in c.args.pool.now.store) (formulas_in c.loop-part.pool.store) (formulas_in c.join.new.pool.store) c.args.parts.now c.args.disjuncts.now c.loop-part.out.items c.push.new.self.items c.in_place.new.out.items
      c.args.place c.loop-part.part-index c.in_ok-list.list c.loop-part.invariant.extends c.in_ok-list.ensures.extends c.requires.parts c.requires.disjuncts (omega arith) c.loop-part.invariant.lists c.in_ok-in_place.ensures.exact
      (is-same (formulas_in c.join.new.pool.store) c.in_ok-list.list _ _ (ap (λ o. every (listed (formulas_in c.loop-part.pool.store) o)) c.as_slice.ensures.value) c.in_ok-list.ensures.made) c.in_ok-push.ensures.items;
}
