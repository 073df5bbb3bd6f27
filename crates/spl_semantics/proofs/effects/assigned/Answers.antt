use Rattle.std.proofs.Common.{ap, sym, subst, arith, drop, ◌+◌}
use Rattle.std.proofs.Math.ListN.{drop_of_length-le}
use Rattle.st_program.specs.Plain.{plain_targets}
use Rattle.spl_semantics.proofs.Exits.{handed}
use Rattle.spl_semantics.proofs.Assigning.{Assigns, next-target, assigns-start, assigns-wide, assigns-next, assigns-done}
use Rattle.spl_semantics.proofs.effects.assigned.Goals as goal

pub loop-target-init : goal.loop-target-init
loop-target-init c = λ h. assigns-start c.args.store.now c.in_ok-after.after.items (plain_targets c.args.targets.now) c.in_ok-after.ensures.items h

pub returns-in_err-datum-clause-value : goal.returns-in_err-datum-clause-value
returns-in_err-datum-clause-value c = λ h.
    let e = next-target c.args.targets.now c.loop-target.target-index c.target-item.result (omega arith) c.target-item.is in
    handed _ c.from_residual-in_err-datum.result c.in_err-datum.field-0.0 _ _ _ c.from_residual-in_err-datum.ensures.1 c.in_err-datum.ensures
    (assigns-wide c.args.store.now c.loop-target.after.items _ _ _ _ e (c.loop-target.invariant h))

pub loop-target-preserved : goal.loop-target-preserved
loop-target-preserved c = λ h.
    let e = next-target c.args.targets.now c.loop-target.target-index c.target-item.result (omega arith) c.target-item.is in
    let n = assigns-next c.args.store.now c.loop-target.after.items _ _ _ _ e (c.loop-target.invariant h) c.in_ok-datum.datum c.in_ok-datum.ensures.0 c.in_ok-datum.ensures.1 in
    subst (λ l. Assigns c.args.store.now l (plain_targets (drop (c.loop-target.target-index + 1) c.args.targets.now)) (plain_targets c.args.targets.now)) (sym c.put.ensures) n

pub returns : goal.returns
returns c =
    let e = ap plain_targets (drop_of_length-le c.args.targets.now c.loop-target-test.false) in
    record { value = λ h. assigns-done c.args.store.now c.loop-target.after.items _ _ e (c.loop-target.invariant h); types = λ h. (c.loop-target.invariant h).same_types }
