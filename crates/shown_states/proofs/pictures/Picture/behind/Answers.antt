use Rattle.std.proofs.Common.{ℕ, List, ap, sym, ◌∙◌, subst}
use Rattle.st_form.specs.Formula.{truth}
use Rattle.st_form.specs.Plain.{plain_change}
use Rattle.st_form.proofs.Truths.{truth-exchanged}
use Rattle.control_states.specs.declared.alternative.Alternative.{Alternative}
use Rattle.shown_states.specs.Pictures.{seen}
use Rattle.shown_states.proofs.Storing.{FrontsBehind, seen_behind}
use Rattle.shown_states.proofs.Moved.{PlacesBehind, shows_behind}
use Rattle.shown_states.proofs.pictures.Picture.behind.Goals as goal

pub returns-clause-seen : goal.returns-clause-seen
returns-clause-seen c = λ gives.
    let fronts = subst (λ (fs : List ℕ). FrontsBehind (plain_change c.args.change.now) fs c.in_ok-fronts.fronts.items) c.deref-2.ensures.value c.in_ok-fronts.ensures in
    seen_behind (plain_change c.args.change.now) c.args.self.now.store.items c.args.self.now.fronts.items gives _ _ c.in-Ok.ensures.values fronts

pub returns-clause-formulas : goal.returns-clause-formulas
returns-clause-formulas c = λ gives f g e.
    let fronts = subst (λ (fs : List ℕ). FrontsBehind (plain_change c.args.change.now) fs c.in_ok-fronts.fronts.items) c.deref-2.ensures.value c.in_ok-fronts.ensures in
    let same = seen_behind (plain_change c.args.change.now) c.args.self.now.store.items c.args.self.now.fronts.items gives _ _ c.in-Ok.ensures.values fronts in
    ap (λ s. truth s f) same ∙ sym (truth-exchanged f (seen c.args.self.now) (plain_change c.args.change.now) g e)

pub returns-clause-control : goal.returns-clause-control
returns-clause-control c = λ own v can shows.
    let fronts = subst (λ (fs : List ℕ). FrontsBehind (plain_change c.args.change.now) fs c.in_ok-fronts.fronts.items) c.deref-2.ensures.value c.in_ok-fronts.ensures in
    let places = subst (λ (ps : List (ℕ × Alternative)). PlacesBehind c.args.components.now (plain_change c.args.change.now) c.args.name ps c.in_ok-control.control.items) c.deref.ensures.value c.in_ok-control.ensures.listed in
    shows_behind c.args.components.now c.args.name (plain_change c.args.change.now) c.args.self.now _ own v can shows places c.in_ok-control.ensures.absent fronts
