use Rattle.std.proofs.Common.{◌≡◌, ap, ◌∙◌, ◌++◌, [], ◌∷◌}
use Rattle.shown_states.proofs.Rising.{rises_from, lists_push, lists_pass}
use Rattle.shown_states.proofs.controls.control_behind.Goals as goal
use Rattle.shown_states.proofs.controls.control_behind.Goals.{in-Some+in_ok-push-in-Some, in-None}

pub loop-component-preserved : goal.loop-component-preserved
loop-component-preserved c =
    elim c.match-place_behind.branch [
      | in-Some+in_ok-push-in-Some w ↦
          let e : c.match-place_behind.out.items ≡ c.loop-component.out.items ++ (c.loop-component.component, w.in-Some.place) ∷ [] = ap (λ v. v.items) w.out-is ∙ w.in_ok-push-in-Some.ensures.items in
          lists_push _ _ _ _ w.in-Some.place e w.in-Some.ensures c.loop-component.invariant
      | in-None w ↦
          let e : c.match-place_behind.out.items ≡ c.loop-component.out.items = ap (λ v. v.items) w.out-is in
          lists_pass _ _ _ _ e w.in-None.ensures c.loop-component.invariant
    ]

pub returns-clause-rises : goal.returns-clause-rises
returns-clause-rises c = rises_from 0 _ _ c.loop-component.invariant.rises
