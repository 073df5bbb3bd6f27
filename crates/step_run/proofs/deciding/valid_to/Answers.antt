use Rattle.std.proofs.Common.{length, refl, ap, arith}
use Rattle.step_run.specs.Conditions.{setting_of}
use Rattle.step_run.specs.Views.{source_view, posed_view}
use Rattle.step_run.proofs.Slices.{next_answers, goes_next}
use Rattle.step_run.proofs.deciding.valid_to.Goals as goal

pub all_valid-requires-clause-within : goal.all_valid-requires-clause-within
all_valid-requires-clause-within c =
    let x = c.args.posed.now in
    let next = next_answers (setting_of (source_view x.source)) x.conditions.items c.in_ok-verdicts.verdicts.items c.args.from c.args.to (omega arith) (omega arith) c.in_ok-verdicts.ensures in
    let size = ap length c.deref.ensures.value in
    omega (arith, next.0, size)

pub all_valid-requires-clause-answers : goal.all_valid-requires-clause-answers
all_valid-requires-clause-answers c =
    let x = c.args.posed.now in
    let next = next_answers (setting_of (source_view x.source)) x.conditions.items c.in_ok-verdicts.verdicts.items c.args.from c.args.to (omega arith) (omega arith) c.in_ok-verdicts.ensures in
    rw c.deref.ensures.value next.1

pub returns-in-On : goal.returns-in-On
returns-in-On c =
    let x = c.args.posed.now in
    let settled = rw (c.in-On.is, c.deref.ensures.value) at c.in_ok-all_valid.ensures in
    goes_next (posed_view x) x.conditions.items c.in_ok-verdicts.verdicts.items c.args.from c.args.to refl (omega arith) (omega arith) c.in_ok-verdicts.ensures settled
