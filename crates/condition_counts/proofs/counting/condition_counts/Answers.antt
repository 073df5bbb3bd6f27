use Rattle.std.proofs.Common.{◌∙◌, ap, ℕ, List, map}
use Rattle.std.specs.List.{sum}
use Rattle.transition_system.specs.declared.transitions.Transition.{Transition}
use Rattle.transition_system.specs.Plain.{View, plain_system, plain_transition}
use Rattle.temporal_goals.specs.Plain.{plain_step}
use Rattle.condition_counts.specs.Sums.{modes_among, step_sum}
use Rattle.condition_counts.proofs.Sums.{sums-are-counts, counts-add-up}
use Rattle.condition_counts.proofs.counting.condition_counts.Goals as goal

pub returns-clause-steps : goal.returns-clause-steps
returns-clause-steps c =
    let all = map plain_step c.args.steps.now in
    let read = ap (λ (ts : List Transition). modes_among (map plain_transition ts)) c.deref.ensures.value in
    let modes = c.in_ok-modes.ensures ∙ read ∙ ap (λ (v : View). modes_among (plain_system v).transitions) c.system.view_is in
    c.in_ok-steps.ensures ∙ ap (λ (n : ℕ). map (step_sum n) all) modes ∙ sums-are-counts (plain_system c.args.system.now) all

pub returns-clause-all : goal.returns-clause-all
returns-clause-all c =
    c.in_ok-all.ensures ∙ ap sum (c.deref-2.ensures.value ∙ returns-clause-steps c) ∙ counts-add-up (plain_system c.args.system.now) (map plain_step c.args.steps.now)
