use Rattle.std.proofs.Common.{◌∙◌, ap, sym, arith, ◌≤◌, length, map, slice_get}
use Rattle.st_form.proofs.Nodes.{plain-False}
use Rattle.transition_system.specs.Plain.{plain_system, plain_transition}
use Rattle.rule_laws.specs.Names.{enabled_if, enabled_of}
use Rattle.diagram_conditions.proofs.Along.{none-enabled}
use Rattle.diagram_conditions.proofs.premises.helper_enabled.Goals as goal

pub returns-in-None-get : goal.returns-in-None-get
returns-in-None-get c =
    let past : length c.deref.result.now ≤ c.in-Some.number = omega (arith, c.in-None-get.ensures.lookup) in
    let none = none-enabled c.deref.result.now c.in-Some.number past in
    plain-False ∙ none
    ∙ ap (λ ts. enabled_if (slice_get (map plain_transition ts) c.in-Some.number)) c.deref.ensures.value
    ∙ ap (λ v. enabled_if (slice_get (plain_system v).transitions c.in-Some.number)) c.fts.view_is
    ∙ ap (enabled_of (plain_system c.args.fts.now)) (sym c.in-Some.is)
