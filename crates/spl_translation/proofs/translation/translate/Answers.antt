use Rattle.std.proofs.Common.{◌≡◌, ℕ, Bool, List, map, subst, sym, ap, ◌∙◌}
use Rattle.observations.specs.Observation.{Observation}
use Rattle.st_form.specs.Formula.{Formula, Situation}
use Rattle.st_form.specs.Plain.{plain}
use Rattle.st_program.specs.Plain.{plain_children}
use Rattle.st_program.specs.Programs.{View}
use Rattle.transition_system.specs.Systems.{PlainTransition, System}
use Rattle.transition_system.specs.Plain.{plain_transition}
use Rattle.transition_system.specs.Meaning.{IsRun}
use Rattle.transition_system.specs.Bounds.{IsSystem}
use Rattle.spl_semantics.specs.Runs.{IsRunOf}
use Rattle.spl_translation.specs.Translation.{initial_form, all_transitions, translation}
use Rattle.spl_translation.specs.Correspondence.{Corresponds}
use Rattle.spl_translation.proofs.Corresponding.{corresponds}
use Rattle.spl_translation.proofs.Observed.{run_seen}
use Rattle.spl_translation.proofs.Fitted.{types}
use Rattle.spl_translation.proofs.Systemic.{translation_is_system}
use Rattle.spl_translation.proofs.translation.translate.Goals as goal

abbrev made : ℕ → List Bool → Formula → List PlainTransition → System
made locations truths initial transitions = record { locations = locations; truths = truths; initial = initial; transitions = transitions }

same_system : (locations : ℕ) (t u : List Bool) (i j : Formula) (ts us : List PlainTransition) → t ≡ u → i ≡ j → ts ≡ us → made locations t i ts ≡ made locations u j us
same_system locations t u i j ts us e f g = ap (λ z. made locations z i ts) e ∙ ap (λ z. made locations u z ts) f ∙ ap (made locations u j) g

pub invariant_of-result : goal.invariant_of-result
invariant_of-result c =
    let v = c.program.inside in
    let p = plain_children v.processes.items in
    let e = same_system v.locations c.in_ok-truths.truths.items (types v.variables.items) (plain c.in_ok-initial.initial) (initial_form p (plain v.initial)) _ (all_transitions p)
    (c.in_ok-truths.ensures ∙ ap types c.deref-2.ensures.value)
    (c.in_ok-initial.ensures ∙ ap (λ z. initial_form (plain_children z) (plain v.initial)) c.deref.ensures.value)
    (c.in_ok-transitions.ensures ∙ ap (λ z. all_transitions (plain_children z)) c.deref-3.ensures.value) in
    subst IsSystem (sym e) (translation_is_system v.variables.items (plain v.initial) p v.locations v.statements c.program.invariant)

abbrev Follows : System → View → Type 0
Follows system v = Corresponds (plain_children v.processes) (plain v.initial) system

pub returns-clause-corresponds : goal.returns-clause-corresponds
returns-clause-corresponds c =
    let v = c.program.inside in
    let p = plain_children v.processes.items in
    let e = same_system v.locations c.in_ok-truths.truths.items (types v.variables.items) (plain c.in_ok-initial.initial) (initial_form p (plain v.initial)) (map plain_transition c.in_ok-transitions.transitions.items) (all_transitions p)
    (c.in_ok-truths.ensures ∙ ap types c.deref-2.ensures.value)
    (c.in_ok-initial.ensures ∙ ap (λ z. initial_form (plain_children z) (plain v.initial)) c.deref.ensures.value)
    (c.in_ok-transitions.ensures ∙ ap (λ z. all_transitions (plain_children z)) c.deref-3.ensures.value) in
    let keeps = c.program.invariant in
    subst (Follows (made v.locations c.in_ok-truths.truths.items (plain c.in_ok-initial.initial) (map plain_transition c.in_ok-transitions.transitions.items))) c.program.view_is
    (subst (Corresponds p (plain v.initial)) (sym e) (corresponds v.variables.items (plain v.initial) p v.locations keeps.well keeps.typed keeps.start))

abbrev Runs : System → View → Type 0
Runs system v = (o : Observation Situation) → IsRunOf (plain_children v.processes) (plain v.initial) o → IsRun system o

pub returns-clause-runs : goal.returns-clause-runs
returns-clause-runs c =
    let v = c.program.inside in
    let p = plain_children v.processes.items in
    let e = same_system v.locations c.in_ok-truths.truths.items (types v.variables.items) (plain c.in_ok-initial.initial) (initial_form p (plain v.initial)) (map plain_transition c.in_ok-transitions.transitions.items) (all_transitions p)
    (c.in_ok-truths.ensures ∙ ap types c.deref-2.ensures.value)
    (c.in_ok-initial.ensures ∙ ap (λ z. initial_form (plain_children z) (plain v.initial)) c.deref.ensures.value)
    (c.in_ok-transitions.ensures ∙ ap (λ z. all_transitions (plain_children z)) c.deref-3.ensures.value) in
    let keeps = c.program.invariant in
    let system = translation v.variables.items (plain v.initial) p v.locations in
    let both = corresponds v.variables.items (plain v.initial) p v.locations keeps.well keeps.typed keeps.start in
    subst (Runs (made v.locations c.in_ok-truths.truths.items (plain c.in_ok-initial.initial) (map plain_transition c.in_ok-transitions.transitions.items))) c.program.view_is
    (subst (λ z. (o : Observation Situation) → IsRunOf p (plain v.initial) o → IsRun z o) (sym e) (λ o run. run_seen p (plain v.initial) keeps.well.numbered system both o run))
