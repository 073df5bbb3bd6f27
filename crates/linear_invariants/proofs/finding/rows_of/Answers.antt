use Rattle.std.proofs.Common.{◌≡◌, ◌≤◌, ℕ, length, arith, ap, ◌∙◌, sym, subst}
use Rattle.std.specs.Prelude.{List}
use Rattle.transition_system.specs.Plain.{View, plain_system}
use Rattle.equation_laws.specs.Space.{equations, start_forms, start_places}
use Rattle.equation_laws.specs.Rows.{rows_of}
use Rattle.equation_laws.proofs.Within.{start-linear}
use Rattle.linear_invariants.specs.Starts.{AreSlight}
use Rattle.linear_invariants.proofs.Kept.{slight-forms}
use Rattle.linear_invariants.proofs.Whole.{take-few, rows-whole}
use Rattle.linear_invariants.proofs.finding.rows_of.Goals as goal

pub push_first_rows-requires-clause-few : goal.push_first_rows-requires-clause-few
push_first_rows-requires-clause-few c =
    let f : length c.args.forms.now ≤ 256 = subst (λ fs. length fs ≤ 256) (sym c.requires.forms) (take-few 256 (equations (plain_system c.args.fts.now).initial)) in
    let n = c.fts.invariant.few_variables in
    let v = c.len.ensures in
    let l = ap (λ (w : View). w.locations) c.fts.view_is in
    let r = c.requires.room in
    omega arith

pub push_first_rows-requires-clause-slight : goal.push_first_rows-requires-clause-slight
push_first_rows-requires-clause-slight c =
    let s = slight-forms c.fts.inside.truths.items _ (start-linear _ c.fts.invariant) in
    subst AreSlight (sym c.requires.forms) (subst (λ (w : View). AreSlight (start_forms (plain_system w))) c.fts.view_is s)

pub returns : goal.returns
returns c =
    let places = c.requires.places ∙ ap (λ (w : View). start_places (plain_system w)) (sym c.fts.view_is) in
    let forms = c.requires.forms ∙ ap (λ (w : View). start_forms (plain_system w)) (sym c.fts.view_is) in
    let n : c.len.result ≡ length c.fts.inside.truths.items = omega (arith, c.len.ensures, c.fts.inside.truths.ok.0) in
    let rows = rw (c.in_ok-rows.ensures, c.deref.ensures.value, c.deref-2.ensures.value, n, places, forms) at c.in_ok-push_first_rows.ensures in
    let v = c.fts.inside in
    rows ∙ rows-whole (plain_system record { locations = v.locations; truths = v.truths.items; initial = v.initial; transitions = v.transitions.items }) ∙ ap (λ (w : View). rows_of (plain_system w)) c.fts.view_is
