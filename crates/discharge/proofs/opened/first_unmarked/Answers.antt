use Rattle.std.proofs.Common.{sym, subst}
use Rattle.farkas_check.specs.PlainProblem.{setting}
use Rattle.discharge.specs.Searched.{ValidBefore}
use Rattle.discharge.proofs.Marking.{before_next}
use Rattle.discharge.proofs.opened.first_unmarked.Goals as goal

pub returns-in-Some : goal.returns-in-Some
returns-in-Some c =
    let told = rw c.in-Some.is at c.in_ok-undecided.ensures.exact in
    (subst (ValidBefore (setting c.args.components.now c.args.variables.now) c.args.conditions.now) (sym told.0) c.loop-place.invariant.before, told.1)

pub loop-place-preserved : goal.loop-place-preserved
loop-place-preserved c = record {
  knows = c.in_ok-undecided.ensures.knows;
  before = before_next (setting c.args.components.now c.args.variables.now) c.args.conditions.now c.loop-place.place (rw c.in_default.is at c.in_ok-undecided.ensures.exact) c.loop-place.invariant.before;
}
