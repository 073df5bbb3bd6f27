use Rattle.std.proofs.Common.{◌∙◌, Some}
use Rattle.proof_script.proofs.Lookups.{absent, found}
use Rattle.proof_script.proofs.naming.step_named.Goals as goal

pub returns-in_err-number : goal.returns-in_err-number
returns-in_err-number c = c.from_residual-in_err-number.ensures ∙ absent c.args.earlier.now.entries c.args.name.now c.in_ok-text.text.now c.in_ok-text.ensures c.in_err-number.ensures.index

pub returns : goal.returns
returns c =
    found c.args.earlier.now.entries c.args.name.now c.in_ok-text.text.now c.in_ok-text.ensures c.in_ok-number.number c.in_ok-number.ensures.index (Some (c.in_ok-invariance.field-0-0.now, c.in_ok-invariance.invariance.now))
    c.in_ok-invariance.ensures.entry
