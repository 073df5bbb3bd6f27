use Rattle.std.proofs.Common.{◌≡◌, true, map, rules, subst}
use Rattle.farkas_check.specs.Problem.{may_case}
use Rattle.farkas_check.specs.PlainProblem.{setting}
use Rattle.form_table.specs.Contents.{formulas_of}
use Rattle.form_table.specs.Lists.{conjuncts_of}
use Rattle.sharing_laws.specs.Contexts.{in_context}
use Rattle.shared_search.specs.Contexts.{context_at}
use Rattle.shared_search.specs.Lists.{AreChildren}
use Rattle.shared_search.proofs.Moving.{by-case, cases-same, kept-there}
use Rattle.shared_search.proofs.choices.by_component.Goals as goal

pub under_each-requires-clause-there : goal.under_each-requires-clause-there
under_each-requires-clause-there c =
    let there = kept-there c.args.decisions.now.cases.items c.deref.result.now c.args.component c.in-Some.numbers.now c.deref.ensures.value c.in-Some.ensures.lookup.0 c.in-Some.ensures.lookup.1 in
    let kept = c.requires.numbered.cases c.args.component c.in-Some.numbers.now there in
    rw c.as_slice-in-Some.ensures.value kept.there

pub returns-in-Some-2-clause-made : goal.returns-in-Some-2-clause-made
returns-in-Some-2-clause-made c =
    let there = kept-there c.args.decisions.now.cases.items c.deref.result.now c.args.component c.in-Some.numbers.now c.deref.ensures.value c.in-Some.ensures.lookup.0 c.in-Some.ensures.lookup.1 in
    let kept = c.requires.numbered.cases c.args.component c.in-Some.numbers.now there in
    let old = c.args.contexts.now.kept.items in
    let context = context_at old c.args.key.context in
    let ts = formulas_of c.under_each.new.table in
    let fs = conjuncts_of (formulas_of c.args.table.now) c.args.key.list in
    let may : may_case c.args.components.now (context_at c.args.contexts.now.kept.items c.args.key.context) c.args.component ≡ true = search rules in
    let under = rw c.as_slice-in-Some.ensures.value at (c.in_ok-lists-in-Some.ensures.made old c.requires.key.0) in
    let same = cases-same (setting c.args.components.now c.args.variables.now) c.args.table.now.decisions fs c.args.component c.in-Some.numbers.now.items kept in
    let lists = subst (λ ys. AreChildren ts old c.in_ok-lists-in-Some.lists.items (map (in_context context) ys)) same under in
    let made = rw c.in-Some-2.is at (c.in_ok-in_contexts-in-Some.ensures.made ts fs lists) in
    by-case (setting c.args.components.now c.args.variables.now) ts c.in_contexts.new.contexts.kept.items context fs c.args.component c.in-Some-2.children may made
