use Rattle.std.proofs.Common.{◌∙◌, ap, map}
use Rattle.farkas_check.specs.PlainProblem.{setting}
use Rattle.form_table.specs.Contents.{formulas_of}
use Rattle.form_table.specs.Lists.{conjuncts_of}
use Rattle.shared_search.specs.Lists.{child_at}
use Rattle.shared_search.proofs.Moving.{by-disjunct}
use Rattle.shared_search.proofs.moves.by_disjunction.Goals as goal

pub returns-in_ok-none_false-in-Some-clause-made : goal.returns-in_ok-none_false-in-Some-clause-made
returns-in_ok-none_false-in-Some-clause-made c =
    λ cs l.
    by-disjunct (setting c.args.components.now c.args.variables.now) (formulas_of c.split.new.self) cs c.args.key.context (conjuncts_of (formulas_of c.args.table.now) c.args.key.list) c.in-Some.lists c.in_ok-none_false-in-Some.field-0 _ l (rw (← c.in-Some.is) c.in_ok-lists.ensures.made)
    (c.in_ok-none_false-in-Some.ensures ∙ ap (map (child_at c.args.key.context)) c.as_slice.ensures.value)
