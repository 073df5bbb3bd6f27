use Rattle.std.proofs.Common.{◌∙◌, ap, subst}
use Rattle.std.specs.Option.{option_and_then}
use Rattle.transition_system.specs.Bounds.{IsSystem}
use Rattle.transition_system.specs.Plain.{plain_system}
use Rattle.diagram_reader.specs.Transitions.{number_of}
use Rattle.diagram_reader.proofs.Numbering.{number_is}
use Rattle.diagram_reader.proofs.transition.transition_named.Goals as goal

pub returns : goal.returns
returns c =
    number_is (plain_system c.args.fts.now) c.in_ok-occ.occ c.args.part c.find.result (subst (λ v. IsSystem (plain_system v)) c.fts.view_is c.fts.invariant) c.find.ensures.found c.find.ensures.absent
    ∙ ap (option_and_then (λ occ. number_of occ c.args.part (plain_system c.args.fts.now).transitions)) c.in_ok-occ.ensures
