use Rattle.std.proofs.Common.{◌≡◌, true, false, refl, rules, ◌∙◌}
use Rattle.sharing_laws.specs.Contexts.{has_inside}
use Rattle.shared_search.specs.Contexts.{context_at}
use Rattle.shared_search.proofs.Moving.{children-enter, children-stay, kept-there}
use Rattle.shared_search.proofs.choices.in_contexts.Goals as goal

pub returns-then-not-inside-clause-made : goal.returns-then-not-inside-clause-made
returns-then-not-inside-clause-made c =
    let there = kept-there c.args.insides.now c.args.insides.now c.args.component c.in-Some.inside.now refl c.in-Some.ensures.lookup.0 c.in-Some.ensures.lookup.1 in
    let no : false ≡ c.in-Some.inside.now = search rules in
    let is : false ≡ has_inside c.args.components.now c.args.component = no ∙ c.requires.insides c.args.component c.in-Some.inside.now there in
    λ ts fs h. children-stay c.args.components.now ts c.args.contexts.now.kept.items _ fs c.args.component _ c.args.lists.items is h

pub returns-clause-made : goal.returns-clause-made
returns-clause-made c =
    let there = kept-there c.args.insides.now c.args.insides.now c.args.component c.in-Some.inside.now refl c.in-Some.ensures.lookup.0 c.in-Some.ensures.lookup.1 in
    let yes' : true ≡ c.in-Some.inside.now = search rules in
    let is : true ≡ has_inside c.args.components.now c.args.component = yes' ∙ c.requires.insides c.args.component c.in-Some.inside.now there in
    let made = rw c.in-Some-2.is at c.in_ok-entered_each-in-Some.ensures.made in
    let contexts = rw c.alternatives-choices.ensures at made in
    let same = rw (c.as_slice.ensures.value, c.as_slice-in-Some-2.ensures.value) at c.in_ok-moved-in-Some-2.ensures in
    λ ts fs h.
    rw same (children-enter c.args.components.now ts c.args.contexts.now.kept.items c.entered_each.new.contexts.kept.items (context_at c.args.contexts.now.kept.items c.args.context) fs c.args.component _ c.in-Some-2.numbers.items c.args.lists.items is contexts h)
