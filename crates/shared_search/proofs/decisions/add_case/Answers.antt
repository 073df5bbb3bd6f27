use Rattle.std.proofs.Common.{◌≡◌, ◌∙◌, ap, length, set, Some, List}
use Rattle.sharing_laws.specs.Lists.{only}
use Rattle.control_states.specs.Control.{ComponentFacts}
use Rattle.control_states.specs.Place.{place}
use Rattle.farkas_check.specs.Problem.{decided_by}
use Rattle.shared_search.proofs.Deciding.{both-pushed, tabled-same}
use Rattle.shared_search.proofs.decisions.add_case.Goals as goal

pub returns-clause-made : goal.returns-clause-made
returns-clause-made c =
    let cases = only (length c.args.components.now.components) c.args.component c.args.choice in
    let same : c.as_slice.result.now ≡ only (length c.args.components.now.components) c.args.component c.args.choice = c.as_slice.ensures.value ∙ ap (λ xs. set xs c.args.component (Some c.args.choice)) c.in_ok-cases.ensures ∙ ap (λ (ps : List ComponentFacts). only (length ps) c.args.component c.args.choice) c.parts.ensures in
    both-pushed c.add.result _ _ _ _ c.add.ensures.number c.add.ensures.made
    (tabled-same c.args.components.now cases c.new.result.items c.in_ok-places.places.items (λ l. c.in_ok-places.ensures.exact l ∙ ap (λ cs. place c.args.components.now cs l) same) ∙ ap (decided_by c.args.components.now cases) c.new.ensures.items)
