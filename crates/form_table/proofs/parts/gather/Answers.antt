use Rattle.std.proofs.Common.{arith}
use Rattle.form_table.specs.Nodes.{formulas_in}
use Rattle.form_table.proofs.Restricting.{gather-goes, gather-stops, gather-ends}
use Rattle.form_table.proofs.parts.gather.Goals as goal

pub loop-part-preserved : goal.loop-part-preserved
loop-part-preserved c = record {
  there = c.in_ok-take_part.ensures.there;
  same = gather-goes c.args.all c.in_ok-take_part.field-0 (formulas_in c.args.store.now) c.args.parts.now c.loop-part.part-index c.loop-part.out.items c.take_part.new.out.items _ (omega arith) c.loop-part.invariant.same c.in_ok-take_part.ensures.takes c.if-not-branch.false;
}

pub returns-clause-made : goal.returns-clause-made
returns-clause-made c = gather-ends c.args.all (formulas_in c.args.store.now) c.args.parts.now c.loop-part.part-index c.loop-part.out.items _ c.loop-part-test.false c.loop-part.invariant.same

pub returns-then-not-branch-clause-made : goal.returns-then-not-branch-clause-made
returns-then-not-branch-clause-made c = gather-stops c.args.all c.in_ok-take_part.field-0 (formulas_in c.args.store.now) c.args.parts.now c.loop-part.part-index c.loop-part.out.items c.take_part.new.out.items _ (omega arith) c.loop-part.invariant.same c.in_ok-take_part.ensures.takes c.if-not-branch.true
