use Rattle.std.proofs.Common.{arith, ◌≡◌, ℕ, ◌++◌, [], length, map, take, ap, ◌∙◌, sym, subst}
use Rattle.st_form.specs.Plain.{plain}
use Rattle.transition_system.specs.Plain.{View, plain_system}
use Rattle.equation_laws.specs.Space.{equations, start_forms}
use Rattle.equation_laws.specs.Rows.{rows_of}
use Rattle.equation_laws.specs.Equations.{AreFound, equation_of, with_variables}
use Rattle.linear_invariants.specs.Plain.{plain_equations}
use Rattle.linear_invariants.proofs.Whole.{rows-within, spans}
use Rattle.linear_invariants.proofs.finding.find.Goals as goal

pub null_basis-requires : goal.null_basis-requires
null_basis-requires c =
    let v = c.fts.inside in
    let n : c.len-variables.result ≡ length c.fts.inside.truths.items = omega (arith, c.len-variables.ensures, c.fts.inside.truths.ok.0) in
    let parts = c.in_ok-push_parts.ensures.forms ∙ ap (λ fs. fs ++ equations (plain v.initial)) c.none-start.ensures.forms in
    let forms = c.first_forms-forms.ensures.value ∙ ap (take 256) (c.deref.ensures.value ∙ parts) in
    let rows = c.in_ok-rows.ensures ∙ ap (λ (w : View). rows_of (plain_system w)) (sym c.fts.view_is) in
    rows-within (plain_system record { locations = v.locations; truths = v.truths.items; initial = v.initial; transitions = v.transitions.items }) c.fts.invariant
    c.len-variables.result c.first_forms-forms.result.now c.in_ok-rows.rows.items n forms rows

pub returns-clause-span : goal.returns-clause-span
returns-clause-span c =
    let v = c.fts.inside in
    let n : c.len-variables.result ≡ length c.fts.inside.truths.items = omega (arith, c.len-variables.ensures, c.fts.inside.truths.ok.0) in
    let parts = c.in_ok-push_parts.ensures.forms ∙ ap (λ fs. fs ++ equations (plain v.initial)) c.none-start.ensures.forms in
    let forms = c.first_forms-forms.ensures.value ∙ ap (take 256) (c.deref.ensures.value ∙ parts) in
    let rows = c.in_ok-rows.ensures ∙ ap (λ (w : View). rows_of (plain_system w)) (sym c.fts.view_is) in
    let found = c.in_ok-equations.ensures ∙ ap (λ bs. map (equation_of c.len-variables.result v.locations) (with_variables c.len-variables.result bs)) c.deref-3.ensures.value in
    subst (λ (w : View). AreFound (plain_system w) (plain_equations c.in_ok-equations.equations.items)) c.fts.view_is
    (spans (plain_system record { locations = v.locations; truths = v.truths.items; initial = v.initial; transitions = v.transitions.items }) c.fts.invariant
    c.len-variables.result c.first_forms-forms.result.now c.in_ok-rows.rows.items n forms rows
    c.in_ok-basis.basis.items (plain_equations c.in_ok-equations.equations.items) c.in_ok-basis.ensures.exact found)
