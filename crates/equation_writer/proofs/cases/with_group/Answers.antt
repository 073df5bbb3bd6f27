use Rattle.std.proofs.Common.{subst, sym, ◌∙◌}
use Rattle.equation_writer.specs.Sums.{AreSmall}
use Rattle.equation_writer.proofs.Casing.{classes-small}
use Rattle.equation_writer.proofs.cases.with_group.Goals as goal

pub with_classes-requires-clause-classes : goal.with_classes-requires-clause-classes
with_classes-requires-clause-classes c = subst AreSmall (sym (c.deref.ensures.value ∙ c.in_ok-classes.ensures)) (classes-small c.args.terms.now c.requires.group)
