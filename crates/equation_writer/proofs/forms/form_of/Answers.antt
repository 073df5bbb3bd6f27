use Rattle.std.proofs.Common.{◌≡◌, false, true, map, subst, sym, ap, ◌∙◌}
use Rattle.st_form.specs.Formula.{formulas}
use Rattle.st_form.specs.Simple.{closed}
use Rattle.linear_invariants.specs.Plain.{plain_equation}
use Rattle.equation_forms.specs.Formulas.{groups_of, choices, cases_slight}
use Rattle.equation_writer.specs.Plain.{plain_terms, plain_case}
use Rattle.equation_writer.specs.Sizes.{are_few}
use Rattle.equation_writer.specs.Sums.{AreModest, AreGroups}
use Rattle.equation_writer.proofs.Casing.{groups-are}
use Rattle.equation_writer.proofs.Limiting.{all-modest-of, not-few, short-made}
use Rattle.equation_writer.proofs.forms.form_of.Goals as goal

pub returns-then-not-branch : goal.returns-then-not-branch
returns-then-not-branch c =
    let is : plain_terms c.in_ok-groups.groups.items ≡ groups_of c.args.components.now (plain_equation c.args.equation.now) = rw (c.owners.ensures, c.deref.ensures.value, c.count.ensures) at c.in_ok-groups.ensures in
    not-few c.args.components.now (plain_equation c.args.equation.now) (plain_terms c.in_ok-groups.groups.items) is
    (ap (λ vs. are_few (plain_terms vs)) (sym c.deref-2.ensures.value) ∙ sym c.in_ok-are_few.ensures ∙ c.if-not-branch.true)

pub cases-requires-clause-proper : goal.cases-requires-clause-proper
cases-requires-clause-proper c =
    let k = c.args.components.now in
    let e = plain_equation c.args.equation.now in
    let is : plain_terms c.in_ok-groups.groups.items ≡ groups_of k e = rw (c.owners.ensures, c.deref.ensures.value, c.count.ensures) at c.in_ok-groups.ensures in
    subst AreGroups (sym (ap plain_terms c.deref-3.ensures.value ∙ is)) (groups-are k.owners e.places _ 0 c.requires.places.entries c.requires.places.small)

pub cases_slight-requires-clause-modest : goal.cases_slight-requires-clause-modest
cases_slight-requires-clause-modest c =
    let k = c.args.components.now in
    let e = plain_equation c.args.equation.now in
    let is : plain_terms c.in_ok-groups.groups.items ≡ groups_of k e = rw (c.owners.ensures, c.deref.ensures.value, c.count.ensures) at c.in_ok-groups.ensures in
    let proper : AreGroups (plain_terms c.in_ok-groups.groups.items) = subst AreGroups (sym is) (groups-are k.owners e.places _ 0 c.requires.places.entries c.requires.places.small) in
    let few : are_few (plain_terms c.in_ok-groups.groups.items) ≡ true = ap (λ vs. are_few (plain_terms vs)) (sym c.deref-2.ensures.value) ∙ sym c.in_ok-are_few.ensures ∙ c.if-not-branch.false in
    subst AreModest (sym (ap (map plain_case) c.deref-4.ensures.value ∙ c.in_ok-cases.ensures ∙ ap (λ vs. choices (plain_terms vs)) c.deref-3.ensures.value)) (all-modest-of c.in_ok-groups.groups.items proper few)

pub disjuncts-requires-clause-modest : goal.disjuncts-requires-clause-modest
disjuncts-requires-clause-modest c =
    let k = c.args.components.now in
    let e = plain_equation c.args.equation.now in
    let is : plain_terms c.in_ok-groups.groups.items ≡ groups_of k e = rw (c.owners.ensures, c.deref.ensures.value, c.count.ensures) at c.in_ok-groups.ensures in
    let proper : AreGroups (plain_terms c.in_ok-groups.groups.items) = subst AreGroups (sym is) (groups-are k.owners e.places _ 0 c.requires.places.entries c.requires.places.small) in
    let few : are_few (plain_terms c.in_ok-groups.groups.items) ≡ true = ap (λ vs. are_few (plain_terms vs)) (sym c.deref-2.ensures.value) ∙ sym c.in_ok-are_few.ensures ∙ c.if-not-branch.false in
    subst AreModest (sym (c.in_ok-cases.ensures ∙ ap (λ vs. choices (plain_terms vs)) c.deref-3.ensures.value)) (all-modest-of c.in_ok-groups.groups.items proper few)

pub returns : goal.returns
returns c =
    let k = c.args.components.now in
    let e = plain_equation c.args.equation.now in
    let is : plain_terms c.in_ok-groups.groups.items ≡ groups_of k e = rw (c.owners.ensures, c.deref.ensures.value, c.count.ensures) at c.in_ok-groups.ensures in
    let few : are_few (plain_terms c.in_ok-groups.groups.items) ≡ true = ap (λ vs. are_few (plain_terms vs)) (sym c.deref-2.ensures.value) ∙ sym c.in_ok-are_few.ensures ∙ c.if-not-branch.false in
    let xs = map plain_case c.in_ok-cases.cases.items in
    let made : xs ≡ choices (plain_terms c.in_ok-groups.groups.items) = c.in_ok-cases.ensures ∙ ap (λ vs. choices (plain_terms vs)) c.deref-3.ensures.value in
    let slight : cases_slight e xs ≡ true = ap (λ vs. cases_slight e (map plain_case vs)) (sym c.deref-4.ensures.value) ∙ sym c.if-not-cases_slight.ensures in
    short-made k e (plain_terms c.in_ok-groups.groups.items) xs _ is made few slight (c.closed.ensures ∙ ap (λ fs. closed false (formulas fs)) c.in_ok-disjuncts.ensures)
