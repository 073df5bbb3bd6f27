use Rattle.std.proofs.Common.{◌≡◌, ◌<◌, ◌++◌, length, map, refl, [], ◌∷◌, Bool, true, false, ap, sym, ◌∙◌, subst, arith}
use Rattle.st_program.specs.Plain.{plain_children}
use Rattle.st_program.specs.Residuals.{Inside, plain_residual, plain_residuals}
use Rattle.st_program.proofs.ResidualRows.{residual-Inside}
use Rattle.spl_semantics.specs.Data.{store_of, types}
use Rattle.spl_semantics.specs.Limits.{wide_rest}
use Rattle.spl_semantics.specs.Plain.{plain_acts, plain_moves, act_stores, move_stores, AllOfTypes, in_front}
use Rattle.spl_semantics.specs.Steps as steps
use Rattle.spl_semantics.specs.Going as going
use Rattle.spl_semantics.proofs.Exits.{handed, or_none, appended-stores}
use Rattle.spl_semantics.proofs.OneOfAll.{wide-next, steps-next, steps-first, with-exit, without-exit, more-stores}
use Rattle.spl_semantics.proofs.stepping.+steps.Goals as goal
use Rattle.spl_semantics.proofs.stepping.+steps.Goals.{acts_of-then-all_done+in_ok-leave-in-Inside+in_ok-push-in-Inside, acts_of-else-all_done}

pub acts_of-join_all-requires : goal.acts_of-join_all-requires
acts_of-join_all-requires t c = λ h. omega (arith, h, c.in-Some.ensures.short)

pub acts_of-returns-in_err-inner-in-Inside-clause-steps : goal.acts_of-returns-in_err-inner-in-Inside-clause-steps
acts_of-returns-in_err-inner-in-Inside-clause-steps t c = λ fits.
    let p = plain_children c.args.program.now.processes in
    let s = store_of c.args.store.now in
    let e : plain_residual c.args.residual.now ≡ Inside c.in-Inside.coop (plain_residuals c.deref-in-Inside.result.now) =
    ap plain_residual c.in-Inside.is ∙ residual-Inside c.in-Inside.coop c.in-Inside.children ∙ ap (λ l. Inside c.in-Inside.coop (plain_residuals l)) (sym c.deref-in-Inside.ensures.value) in
    handed _ c.from_residual-in_err-inner-in-Inside.result c.in_err-inner-in-Inside.field-0.0 _ _ _ c.from_residual-in_err-inner-in-Inside.ensures.1 (c.in_err-inner-in-Inside.ensures.steps fits) (λ h. ap (λ r. wide_rest r p s) e ∙ h)

pub acts_of-returns-after-all_done-clause-steps : goal.acts_of-returns-after-all_done-clause-steps
acts_of-returns-after-all_done-clause-steps t c = λ fits.
    let p = plain_children c.args.program.now.processes in
    let s = store_of c.args.store.now in
    let rs = plain_residuals c.deref-in-Inside.result.now in
    let e : plain_residual c.args.residual.now ≡ Inside c.in-Inside.coop rs =
    ap plain_residual c.in-Inside.is ∙ residual-Inside c.in-Inside.coop c.in-Inside.children ∙ ap (λ l. Inside c.in-Inside.coop (plain_residuals l)) (sym c.deref-in-Inside.ensures.value) in
    let same : plain_residuals c.deref-in-Inside-2.result.now ≡ rs = ap plain_residuals (c.deref-in-Inside-2.ensures.value ∙ sym c.deref-in-Inside.ensures.value) in
    let r = c.in_ok-inner-in-Inside.ensures.steps fits in
    let done : (b : Bool) → c.all_done.result ≡ b → going.all_done rs ≡ b = λ b h. sym (ap going.all_done same) ∙ sym c.all_done.ensures ∙ h in (
      ap (λ r. wide_rest r p s) e ∙ r.0,
      (elim c.if-all_done.branch [
        | acts_of-then-all_done+in_ok-leave-in-Inside+in_ok-push-in-Inside w ↦ ap (λ v. plain_acts v.items) w.acts-is ∙ with-exit p s c.in-Inside.coop rs (plain_moves c.in_ok-inner-in-Inside.inner.items) r.1 w.push.new.self.items c.in_ok-acts-in-Inside.acts.items w.in_ok-leave-in-Inside.field-0 w.in_ok-push-in-Inside.ensures.items c.in_ok-acts-in-Inside.ensures.steps w.in_ok-leave-in-Inside.ensures.step (done true w.if-all_done.true)
        | acts_of-else-all_done w ↦ ap (λ v. plain_acts v.items) w.acts-is ∙ without-exit p s c.in-Inside.coop rs (plain_moves c.in_ok-inner-in-Inside.inner.items) r.1 c.in_ok-acts-in-Inside.acts.items c.in_ok-acts-in-Inside.ensures.steps (done false w.if-all_done.false)
      ]) ∙ sym (ap (λ r. steps.steps r p s) e),
    )

pub acts_of-returns-after-all_done-clause-stores : goal.acts_of-returns-after-all_done-clause-stores
acts_of-returns-after-all_done-clause-stores t c = λ fits.
    let ts = types c.args.store.now in
    let inner : AllOfTypes ts (act_stores c.in_ok-acts-in-Inside.acts.items) = subst (AllOfTypes ts) (sym c.in_ok-acts-in-Inside.ensures.stores) (c.in_ok-inner-in-Inside.ensures.stores fits) in
    elim c.if-all_done.branch [
      | acts_of-then-all_done+in_ok-leave-in-Inside+in_ok-push-in-Inside w ↦ subst (λ v. AllOfTypes ts (act_stores v.items)) (sym w.acts-is) (appended-stores ts c.in_ok-acts-in-Inside.acts.items (w.in_ok-leave-in-Inside.field-0 ∷ []) w.push.new.self.items w.in_ok-push-in-Inside.ensures.items inner (w.in_ok-leave-in-Inside.ensures.store, tt))
      | acts_of-else-all_done w ↦ subst (λ v. AllOfTypes ts (act_stores v.items)) (sym w.acts-is) inner
    ]

pub moves_of-loop-place-init : goal.moves_of-loop-place-init
moves_of-loop-place-init t c = λ fits.
    let ts = types c.args.store.now in
    let empty = sym c.new-moves.ensures.items in
    record {
      stores = subst (λ l. AllOfTypes ts (move_stores l)) empty tt;
      steps = (refl, subst (λ l. plain_moves l ++ map (going.around (in_front [])) (steps.steps_of (plain_residuals c.args.residuals.now) (plain_children c.args.program.now.processes) (store_of c.args.store.now)) ≡ steps.steps_of (plain_residuals c.args.residuals.now) (plain_children c.args.program.now.processes) (store_of c.args.store.now)) empty (steps-first (plain_children c.args.program.now.processes) (store_of c.args.store.now) c.args.residuals.now));
    }

pub moves_of-loop-place-preserved : goal.moves_of-loop-place-preserved
moves_of-loop-place-preserved t c = λ fits.
    let ts = types c.args.store.now in
    let p = plain_children c.args.program.now.processes in
    let s = store_of c.args.store.now in
    let rs = c.args.residuals.now in
    let k = c.loop-place.place in
    let x = c.index-residuals-place.result in
    let le : k < length rs = omega (arith, c.loop-place-test.true) in
    let i = c.loop-place.invariant fits in
    record {
      stores = more-stores ts c.loop-place.moves.items c.in_ok-acts.acts.items c.place_all.new.moves.items c.in_ok-place_all.ensures.stores i.stores (c.in_ok-acts.ensures.stores fits);
      steps =
          let j = i.steps in
          let r = c.in_ok-acts.ensures.steps fits in (
            sym (wide-next p s rs k x le c.index-residuals-place.is ∙ or_none _ _ r.0) ∙ j.0,
            steps-next p s rs k x le c.index-residuals-place.is (plain_moves c.loop-place.moves.items) (plain_moves c.place_all.new.moves.items) _ (plain_acts c.in_ok-acts.acts.items) r.1 c.in_ok-place_all.ensures.steps j.1,
          );
    }
