use Rattle.std.proofs.Common.{sym, ◌∙◌, arith}
use Rattle.spl_semantics.specs.Data.{store_of}
use Rattle.spl_semantics.proofs.Exits.{handed}
use Rattle.spl_semantics.proofs.Evaluating.{wide-form_here}
use Rattle.spl_semantics.proofs.formulas.+holds.Goals as goal

pub all_true-returns-in_err-holds : goal.all_true-returns-in_err-holds
all_true-returns-in_err-holds t c =
    handed _ c.from_residual.result c.in_err-holds.field-0.0 _ _ _ c.from_residual.ensures.1 c.in_err-holds.ensures
    (λ h. sym c.loop-form.invariant.wide ∙ wide-form_here c.args.forms.now c.loop-form.form-index c.form-item.result (omega arith) c.form-item.is (store_of c.args.store.now) h)

pub any_true-returns-in_err-holds : goal.any_true-returns-in_err-holds
any_true-returns-in_err-holds t c =
    handed _ c.from_residual.result c.in_err-holds.field-0.0 _ _ _ c.from_residual.ensures.1 c.in_err-holds.ensures
    (λ h. sym c.loop-form.invariant.wide ∙ wide-form_here c.args.forms.now c.loop-form.form-index c.form-item.result (omega arith) c.form-item.is (store_of c.args.store.now) h)
