use Rattle.std.proofs.Common.{ap, ◌∙◌, refl, [], ◌∷◌, set, rules}
use Rattle.st_form.specs.declared.conditions.Part.TheVariants.{Whole}
use Rattle.st_form.specs.declared.conditions.TransName.TheVariants.{Step}
use Rattle.st_linear.specs.Linear.{is_wide}
use Rattle.st_program.specs.Residuals.{Done}
use Rattle.st_program.specs.declared.residuals.Datum.TheVariants.{Number}
use mir.Syntax.{w128}
use mir.Val.{SFits}
use Rattle.std.proofs.lemmas.Int.{to_z-of_z}
use Rattle.spl_semantics.specs.Data.{store_of}
use Rattle.spl_semantics.specs.Going.{act}
use Rattle.spl_semantics.specs.Stores.{one_more}
use Rattle.spl_semantics.proofs.Assigning.{count-is}
use Rattle.spl_semantics.proofs.simple.release_acts.Goals as goal

pub sum_of-requires : goal.sum_of-requires
unfolding is_wide
sum_of-requires c = refl

pub returns-clause-steps : goal.returns-clause-steps
returns-clause-steps c = λ h.
    let fits : SFits w128 c.in_ok-risen.risen = search rules in
    let k = to_z-of_z w128 c.in_ok-risen.risen fits in (
      c.in_ok-risen.ensures.0,
      c.in_ok-count_acts.ensures.steps
          ∙ ap (λ z. act (Step c.args.occ Whole) 1 Done (store_of (set c.args.store.now c.args.variable (Number z))) ∷ []) k
          ∙ ap (λ s. act (Step c.args.occ Whole) 1 Done s ∷ []) (count-is c.args.store.now c.args.variable (one_more c.args.variable) c.in_ok-risen.risen h c.in_ok-risen.ensures.1),
    )
