-- The transitions of a program by one walk over the text: those of a statement, then those of what stands in it.
use Rattle.std.specs.Prelude.{ℕ, List, [], ◌++◌}
use Rattle.transition_system.specs.Systems.{PlainTransition}
use Rattle.st_program.specs.Tree.{Statement, stated, Action, skip, if_then, if_else, while_do, block, select, cooperate, Statements, no_statement, statement, process, Processes, no_process, beside}
use Rattle.st_program.specs.Spots.{entry}
use Rattle.spl_translation.specs.Translation.{own_transitions}

abbrev mutual
  -- next is the location behind it
  pub walk : Statement → ℕ → List PlainTransition
  walk (stated o l a) next = own_transitions a o l next ++ walk_within a l next

  -- what stands in a statement with the location l
  pub walk_within : Action → ℕ → ℕ → List PlainTransition
  walk_within (if_then t y) l next = walk y next
  walk_within (if_else t y n) l next = walk y next ++ walk n next
  walk_within (while_do t b) l next = walk b l
  walk_within (block ss) l next = walk_along ss next
  walk_within (select ss) l next = walk_among ss next
  walk_within (cooperate ps) l next = walk_inside ps
  walk_within skip l next = []
  walk_within _ l next = []

  pub walk_along : Statements → ℕ → List PlainTransition
  walk_along no_statement next = []
  walk_along (statement s ss) next = walk s (entry ss next) ++ walk_along ss next

  pub walk_among : Statements → ℕ → List PlainTransition
  walk_among no_statement next = []
  walk_among (statement s ss) next = walk s next ++ walk_among ss next

  pub walk_inside : Processes → List PlainTransition
  walk_inside no_process = []
  walk_inside (beside (process ss end) ps) = walk_along ss end ++ walk_inside ps
