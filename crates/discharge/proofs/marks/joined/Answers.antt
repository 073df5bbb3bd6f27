use Rattle.std.proofs.Common.{sym, subst}
use Rattle.discharge.specs.Marked.{AreMarks}
use Rattle.discharge.proofs.Marking.{taken_over}
use Rattle.discharge.proofs.marks.joined.Goals as goal

pub returns : goal.returns
returns c = λ k cs h g. record {
  marks = taken_over k cs c.args.one.valid.items c.deref.result.now c.take_over.new.marks.items c.take_over.ensures.as_many c.take_over.ensures.from h.marks
      (subst (AreMarks k cs) (sym c.deref.ensures.value) g.marks);
  undecided = c.earlier.ensures k cs h.undecided g.undecided;
}
