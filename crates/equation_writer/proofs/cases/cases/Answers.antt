use Rattle.std.proofs.Common.{subst, sym, ap, ◌∙◌, map, arith}
use Rattle.equation_writer.specs.Plain.{plain_case}
use Rattle.equation_writer.specs.Sums.{AreModest, IsGroup}
use Rattle.equation_writer.proofs.Limiting.{modest-left, group-at}
use Rattle.equation_writer.proofs.cases.cases.Goals as goal

pub with_group-requires-clause-group : goal.with_group-requires-clause-group
with_group-requires-clause-group c =
    let within = c.loop-left.invariant.within in
    let some = c.loop-left-test.true in
    subst IsGroup (sym c.deref.ensures.value) (group-at c.args.groups.now _ c.index-groups-left.result (omega arith) c.index-groups-left.is c.requires.proper)

pub with_group-requires-clause-modest : goal.with_group-requires-clause-modest
with_group-requires-clause-modest c =
    subst AreModest (sym (ap (map plain_case) c.deref-in-loop-left.ensures.value ∙ c.loop-left.invariant.same)) (modest-left c.args.groups.now c.loop-left.left c.requires.proper c.requires.few)
