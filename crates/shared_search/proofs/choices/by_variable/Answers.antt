use Rattle.std.proofs.Common.{rules, ◌≡◌, true, slice_get}
use Rattle.farkas_check.specs.Problem.{has_truth}
use Rattle.farkas_check.specs.PlainProblem.{setting}
use Rattle.form_table.specs.Contents.{formulas_of}
use Rattle.form_table.specs.Lists.{conjuncts_of}
use Rattle.shared_search.specs.Contexts.{context_at}
use Rattle.shared_search.proofs.Moving.{by-truth, kept-there}
use Rattle.shared_search.proofs.choices.by_variable.Goals as goal

pub under_each-requires-clause-there : goal.under_each-requires-clause-there
under_each-requires-clause-there c =
    let there = kept-there c.args.decisions.now.truths.items c.deref.result.now c.args.var c.in-Some.numbers.now c.deref.ensures.value c.in-Some.ensures.lookup.0 c.in-Some.ensures.lookup.1 in
    let kept = c.requires.numbered.truths c.args.var c.in-Some.numbers.now there in
    rw c.as_slice.ensures.value kept.there

pub returns-in_ok-lists-in-Some-clause-made : goal.returns-in_ok-lists-in-Some-clause-made
returns-in_ok-lists-in-Some-clause-made c =
    let there = kept-there c.args.decisions.now.truths.items c.deref.result.now c.args.var c.in-Some.numbers.now c.deref.ensures.value c.in-Some.ensures.lookup.0 c.in-Some.ensures.lookup.1 in
    let kept = c.requires.numbered.truths c.args.var c.in-Some.numbers.now there in
    let is : has_truth (slice_get c.args.variables.now c.args.var) ≡ true = search rules in
    λ cs l.
    by-truth (setting c.args.components.now c.args.variables.now) c.args.table.now.decisions (formulas_of c.under_each.new.table) cs (context_at cs c.args.key.context) (conjuncts_of (formulas_of c.args.table.now) c.args.key.list) c.args.var c.in-Some.numbers.now.items c.in_ok-lists-in-Some.lists is kept
    (rw (← c.as_slice.ensures.value) (c.in_ok-lists-in-Some.ensures.made cs l))
