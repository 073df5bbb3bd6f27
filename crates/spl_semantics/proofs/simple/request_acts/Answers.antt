use Rattle.std.proofs.Common.{◌≡◌, true, ap, sym, ◌∙◌, refl, [], ◌∷◌, set, rules}
use Rattle.std.specs.Prelude.{pos, int_le, if◌then◌else◌}
use Rattle.st_form.specs.declared.conditions.Part.TheVariants.{Whole}
use Rattle.st_form.specs.declared.conditions.TransName.TheVariants.{Step}
use Rattle.st_linear.specs.Linear.{is_wide, value}
use Rattle.st_program.specs.Tree.{number}
use Rattle.st_program.specs.Residuals.{Done}
use Rattle.spl_semantics.specs.Data.{store_of}
use Rattle.st_program.specs.declared.residuals.Datum.TheVariants.{Number}
use mir.Syntax.{w128}
use mir.Val.{SFits}
use Rattle.std.proofs.lemmas.Int.{to_z-of_z}
use Rattle.spl_semantics.specs.Going.{act}
use Rattle.spl_semantics.specs.Stores.{assigned, one_less}
use Rattle.spl_semantics.proofs.Assigning.{count-is}
use Rattle.spl_semantics.proofs.simple.request_acts.Goals as goal

pub sum_of-requires : goal.sum_of-requires
unfolding is_wide
sum_of-requires c = refl

pub returns-in_ok-count_acts-clause-steps : goal.returns-in_ok-count_acts-clause-steps
returns-in_ok-count_acts-clause-steps c = λ h.
    let fits : SFits w128 c.in_ok-left.left = search rules in
    let k = to_z-of_z w128 c.in_ok-left.left fits in
    let s = store_of c.args.store.now in
    let v = c.args.variable in
    let e : c.in_ok-left.left ≡ value s.numbers (one_less v) = c.in_ok-left.ensures.1 in
    let t : int_le (pos 0) c.in_ok-left.left ≡ true = rw k at c.if-left-ge0.true in
    let acts = act (Step c.args.occ Whole) 1 Done (assigned ((v, number (one_less v)) ∷ []) s) ∷ [] in (
      c.in_ok-left.ensures.0,
      c.in_ok-count_acts.ensures.steps
          ∙ ap (λ z. act (Step c.args.occ Whole) 1 Done (store_of (set c.args.store.now c.args.variable (Number z))) ∷ []) k
          ∙ ap (λ z. act (Step c.args.occ Whole) 1 Done z ∷ []) (count-is c.args.store.now v (one_less v) c.in_ok-left.left h e)
          ∙ sym (ap (λ b. if b then acts else []) (sym (ap (int_le (pos 0)) e) ∙ t)),
    )
