use Rattle.std.proofs.Common.{◌≡◌, ◌∙◌, [], ap, length, set, Some}
use Rattle.farkas_check.specs.Problem.{decided_by}
use Rattle.sharing_laws.specs.Lists.{only}
use Rattle.shared_search.proofs.Deciding.{both-pushed, tabled-same}
use Rattle.shared_search.proofs.decisions.add_truth.Goals as goal

pub returns-clause-made : goal.returns-clause-made
returns-clause-made c =
    let same : set c.in_ok-truths.truths.items c.args.var (Some c.args.to) ≡ only (length c.args.variables.now) c.args.var c.args.to = ap (λ xs. set xs c.args.var (Some c.args.to)) c.in_ok-truths.ensures in
    both-pushed c.add.result _ _ _ _ c.add.ensures.number c.add.ensures.made
    (tabled-same c.args.components.now [] (set c.in_ok-truths.truths.items c.args.var (Some c.args.to)) c.in_ok-places.places.items c.in_ok-places.ensures.exact ∙ ap (decided_by c.args.components.now []) same)
