use Rattle.std.proofs.Common.{◌≡◌, ◌++◌, drop}
use Rattle.st_program.specs.Plain.{plain_stmts}
use Rattle.control_facts.specs.Walk.{heads_among}
use Rattle.control_facts.proofs.choices.+heads.Given as goal

abbrev pub invariant-push_heads_among-loop-item : goal.invariant-push_heads_among-loop-item
invariant-push_heads_among-loop-item l = l.out.items ++ heads_among (plain_stmts (drop l.item-index l.fn.items)) ≡ l.fn.out.items ++ heads_among (plain_stmts l.fn.items)
