use Rattle.std.proofs.Common.{◌≡◌, ◌+◌, [], ◌∷◌, ap, ◌∙◌, sym, arith}
use Rattle.st_form.specs.declared.conditions.Part.TheVariants.{Whole}
use Rattle.st_form.specs.declared.conditions.TransName.TheVariants.{Step}
use Rattle.st_program.specs.Plain.{plain_pieces}
use Rattle.st_program.specs.Residuals.{Done}
use Rattle.spl_semantics.specs.Data.{store_of}
use Rattle.spl_semantics.specs.Plain.{plain_acts, plain_walk}
use Rattle.spl_semantics.specs.Going.{act}
use Rattle.spl_semantics.proofs.Exits.{handed}
use Rattle.spl_semantics.proofs.Walking.{wide-walk_along, group-acts, acts_of_walk, walk_along-below}
use Rattle.spl_semantics.proofs.walks.group_acts.Goals as goal

pub returns-in_err-number-clause-steps : goal.returns-in_err-number-clause-steps
returns-in_err-number-clause-steps c = λ m h.
    let xs = plain_pieces c.args.pieces.now in
    handed _ c.from_residual.result c.in_err-number.field-0.0 _ _ _ c.from_residual.ensures.1 (c.in_err-number.ensures.steps m h) (λ e. wide-walk_along xs (store_of c.args.store.now) ∙ e)

pub returns-in_ok-one-in-Some-clause-steps : goal.returns-in_ok-one-in-Some-clause-steps
returns-in_ok-one-in-Some-clause-steps c = λ m h.
    let xs = plain_pieces c.args.pieces.now in
    let s = store_of c.args.store.now in
    let o = c.args.occ in
    let after = store_of c.in-Some.after.items in
    let r = c.in_ok-number.ensures.steps m h in
    let w = ap plain_walk (sym c.in-Some.is) ∙ r.1 in
    let b = walk_along-below xs s (c.in-Some.number, after) (sym w) in
    let q : c.saturating_add.result ≡ 1 + c.in-Some.number = omega (arith, b, h, c.saturating_add.ensures) in (
      wide-walk_along xs s ∙ r.0,
      c.in_ok-one-in-Some.ensures.steps ∙ ap (λ n. act (Step o Whole) n Done after ∷ []) q ∙ sym (group-acts o xs s ∙ ap (acts_of_walk o) (sym w)),
    )

pub returns-in-None-clause-steps : goal.returns-in-None-clause-steps
returns-in-None-clause-steps c = λ m h.
    let xs = plain_pieces c.args.pieces.now in
    let s = store_of c.args.store.now in
    let o = c.args.occ in
    let r = c.in_ok-number.ensures.steps m h in
    let w = ap plain_walk (sym c.in-None.is) ∙ r.1 in (
      wide-walk_along xs s ∙ r.0,
      ap plain_acts c.new.ensures.items ∙ sym (group-acts o xs s ∙ ap (acts_of_walk o) (sym w)),
    )
