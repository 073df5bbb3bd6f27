-- The first statement in text order with an occurrence.
use Rattle.std.specs.Prelude.{ℕ, Option, Some, None, nat_eq, if◌then◌else◌}
use Rattle.st_program.specs.Tree.{Statement, stated, skip, if_then, if_else, while_do, block, select, cooperate, Action, Statements, no_statement, statement, process, Processes, no_process, beside}

abbrev pub or_else : Option Statement → Option Statement → Option Statement
or_else None o = o
or_else (Some s) o = Some s

abbrev mutual
  pub find_in : Statement → ℕ → Option Statement
  find_in (stated o l a) n = if nat_eq o n then Some (stated o l a) else find_inside a n

  pub find_inside : Action → ℕ → Option Statement
  find_inside (if_then t y) n = find_in y n
  find_inside (if_else t y z) n = or_else (find_in y n) (find_in z n)
  find_inside (while_do t b) n = find_in b n
  find_inside (block ss) n = find_along ss n
  find_inside (select ss) n = find_along ss n
  find_inside (cooperate ps) n = find_among ps n
  find_inside skip n = None
  find_inside _ n = None

  pub find_along : Statements → ℕ → Option Statement
  find_along no_statement n = None
  find_along (statement s ss) n = or_else (find_in s n) (find_along ss n)

  pub find_among : Processes → ℕ → Option Statement
  find_among no_process n = None
  find_among (beside (process ss end) ps) n = or_else (find_along ss n) (find_among ps n)
