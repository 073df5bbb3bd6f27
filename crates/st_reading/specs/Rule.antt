-- The rules that a text can break, where the grammar refuses nothing and no limit is passed: those of programs, of proofs and
-- of schedules in one list, since a report names them alike.
pub data Rule : Type 0 where
  -- a name that stands for nothing there
  Unknown : Rule
  -- a name, a number or a value that was given before
  Twice : Rule
  WrongType : Rule
  NonLinear : Rule
  TooLarge : Rule
  -- a statement: what it changes, and how a branch begins
  InputAssigned : Rule
  SelectHead : Rule
  SameTarget : Rule
  -- a step: what it cites, and how many levels it has
  UnknownLemma : Rule
  NotInvariant : Rule
  WrongCount : Rule
  -- transitions, nodes, edges and helpers
  UnknownTransition : Rule
  UnknownNode : Rule
  Upward : Rule
  NoTerminal : Rule
  UnfairHelper : Rule
  NotCompassionate : Rule
  NoHelper : Rule
  -- a variable that a schedule doesn't set
  Unset : Rule
