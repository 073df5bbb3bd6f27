use Rattle.std.proofs.Common.{◌≢◌, All, subst, ◌∙◌, ap}
use Rattle.std.proofs.lemmas.List.Elements.{All-map}
use Rattle.transition_system.specs.Plain.{plain_transition}
use Rattle.transition_system.proofs.systems.Fts.find.Goals as goal

pub returns-clause-absent : goal.returns-clause-absent
returns-clause-absent c none =
    let among = subst (All (λ t. t.name ≢ c.args.name)) (c.deref.ensures.value ∙ ap (λ v. v.transitions) c.self.view_is) (c.find_among.ensures.absent none) in
    All-map (λ t. t.name ≢ c.args.name) plain_transition c.args.self.now.transitions among
