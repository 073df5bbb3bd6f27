use Rattle.std.proofs.Common.{◌≡◌, ◌++◌, drop}
use Rattle.st_program.specs.Plain.{plain_stmts}
use Rattle.control_facts.specs.Walk.{choices_along, choices_among}
use Rattle.control_facts.proofs.choices.+choices.Given as goal

abbrev pub invariant-push_along-loop-item : goal.invariant-push_along-loop-item
invariant-push_along-loop-item l = l.out.items ++ choices_along l.own (plain_stmts (drop l.item-index l.fn.items)) ≡ l.fn.out.items ++ choices_along l.fresh (plain_stmts l.fn.items)

abbrev pub invariant-push_among-loop-item : goal.invariant-push_among-loop-item
invariant-push_among-loop-item l = l.out.items ++ choices_among (plain_stmts (drop l.item-index l.fn.items)) ≡ l.fn.out.items ++ choices_among (plain_stmts l.fn.items)
