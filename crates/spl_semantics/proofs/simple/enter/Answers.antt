use Rattle.std.proofs.Common.{[], ◌∷◌, ap, ◌∙◌}
use Rattle.st_form.specs.declared.conditions.Part.TheVariants.{Entry}
use Rattle.st_form.specs.declared.conditions.TransName.TheVariants.{Step}
use Rattle.st_program.specs.Residuals.{Inside, plain_residuals}
use Rattle.st_program.proofs.ResidualRows.{residual-Inside}
use Rattle.spl_semantics.specs.Data.{store_of}
use Rattle.spl_semantics.specs.Plain.{plain_acts}
use Rattle.spl_semantics.specs.Going.{act}
use Rattle.spl_semantics.proofs.simple.enter.Goals as goal

pub returns-clause-steps : goal.returns-clause-steps
returns-clause-steps c =
    let made = rw c.new-acts.ensures.items at (ap plain_acts c.in_ok-push.ensures.items) in
    made
    ∙ ap (λ r. act (Step c.args.occ Entry) 1 r (store_of c.in_ok-from_slice.field-0.items) ∷ []) (residual-Inside c.args.occ c.args.children)
    ∙ ap (λ l. act (Step c.args.occ Entry) 1 (Inside c.args.occ (plain_residuals c.args.children.items)) (store_of l) ∷ []) c.in_ok-from_slice.ensures.items
