use Rattle.std.proofs.Common.{◌∙◌, ◌++◌, ap, subst, sym, true}
use Rattle.st_form.specs.Plain.{plain_list}
use Rattle.st_form.specs.Shared.{consequent_of}
use Rattle.form_table.specs.Lists.{AllThere, listed_in}
use Rattle.form_table.specs.Nodes.{formulas_in}
use Rattle.form_table.specs.Table.{joined, listed}
use Rattle.form_table.proofs.Beginning.{list-both}
use Rattle.form_table.proofs.Taking.{is-same}
use Rattle.form_table.proofs.beginnings.first_list.Goals as goal

pub returns-clause-made : goal.returns-clause-made
returns-clause-made c =
    let us = formulas_in c.gathered_forms.new.pool.store in
    let vs = formulas_in c.denied.new.pool.store in
    let ws = formulas_in c.join.new.pool.store in
    list-both us vs ws c.in-Some.out.items c.in-Some-2.rest.items c.extend_from_slice.new.self.items c.in_ok-list.list (plain_list c.args.given.now) (consequent_of c.args.shown.now)
    c.in_ok-rest.ensures.extends (subst (AllThere us) c.in-Some.is c.in_ok-out.ensures.there) (ap (listed_in us) (sym c.in-Some.is) ∙ c.in_ok-out.ensures.made) (ap (listed_in vs) (sym c.in-Some-2.is) ∙ c.in_ok-rest.ensures.made)
    (c.in_ok-extend_from_slice.ensures.items ∙ ap (λ k. c.in-Some.out.items ++ k) c.as_slice.ensures.value)
    (is-same ws c.in_ok-list.list _ _ (ap (λ k. joined true (listed vs k)) c.as_slice-2.ensures.value) c.in_ok-list.ensures.made)
